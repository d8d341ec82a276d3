-- The stores of a write: "data records first, then directory records".
use Rattle.std.specs.Prelude.{Bool, List, ◌++◌, ℕ}
use Rattle.disk_geometry.specs.declared.Geometry.{Geometry}
use Rattle.disk_volume.specs.Entry.{Entry}
use Rattle.disk_stores.specs.Stores.{Store, laid, record_stores, entry_stores}

-- r as record n of the block, which is filled if so, and then e in the slot
abbrev pub data_then_entry : Geometry → Bool → List ℕ → ℕ → ℕ → List ℕ → ℕ → Entry → List Store
data_then_entry g fills v block n r slot e =
    record_stores g fills block n r ++ entry_stores g (laid g v (record_stores g fills block n r)) slot e
