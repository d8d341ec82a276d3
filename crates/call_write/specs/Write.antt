-- What a write stores, and how blocks come to be held. Which slot, entry and block it means stands in `call_decide`'s
-- Write.
use Rattle.std.specs.Prelude.{Bool, cond, List, ℕ}
use Rattle.disk_geometry.specs.declared.Geometry.{Geometry}
use Rattle.disk_stores.specs.Stores.{Store}
use Rattle.disk_held.specs.Held.{hold}
use Rattle.call_decide.specs.Write.{write_slot, fills_block, write_block, entry_after}
use Rattle.call_store.specs.Stores.{data_then_entry}

-- record n with the bytes r, "data records first, then directory records"; a write that fills, function 40, fills a block that
-- it gives
abbrev pub write_stores : Geometry → List ℕ → List ℕ → ℕ → List ℕ → ℕ → Bool → List ℕ → List Store
write_stores g held v u name n fills r =
    data_then_entry g (fills_block g v u name n fills) v (write_block g held v u name n) n r
    (write_slot g v u name n) (entry_after g held v u name n)

-- a block that is newly given is held from then on
abbrev pub hold_if : Bool → List ℕ → ℕ → List ℕ
hold_if fresh held b = cond fresh (hold held b) held
