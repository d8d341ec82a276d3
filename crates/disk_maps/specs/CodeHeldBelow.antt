-- The held blocks while inspection goes on: those from D to T-1 that the slots passed so far name.
use Rattle.std.specs.Prelude.{Bool, ◌&&◌, ◌||◌, List, ℕ}
use Rattle.disk_geometry.specs.declared.Geometry.{Geometry}
use Rattle.disk_geometry.specs.Geometry.{inside}
use Rattle.disk_volume.specs.Directory.{slot_at}
use Rattle.disk_rules.specs.GoodSlot.{in_places, named_below}

-- in the slots below i
unfoldable pub held_below : Geometry → List ℕ → ℕ → ℕ → Bool
held_below g v i b = inside g b && named_below g v i b

-- in the slots below i and in the first k places of slot i
unfoldable pub held_up_to : Geometry → List ℕ → ℕ → ℕ → ℕ → Bool
held_up_to g v i k b = inside g b && (named_below g v i b || in_places g (slot_at g v i) k b)
