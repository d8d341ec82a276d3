-- "In a lower slot that is not empty", by the lowest such slot.
use mathlib.Core.Path.{◌≡◌}
use mathlib.Core.List.{List}
use Prim.Native.Nat.{ℕ, ◌+◌}
use native.Mathlib.Omega.{arith}
use lib.Dec.{ltb}
use Rattle.lists.proofs.BoundedLaws.{any_low}
use Rattle.disk_geometry.specs.declared.Geometry.{Geometry}
use Rattle.disk_volume.specs.Directory.{slot_at}
use Rattle.disk_rules.specs.GoodSlot.{names_block, named_below}
use Rattle.disk_faults.specs.Faults.{slot_of}

pub named_by_slot : (g : Geometry) (v : List ℕ) (i b : ℕ) → named_below g v i b ≡ ltb (slot_of g v i b) i
unfolding named_below slot_of
named_by_slot g v i b = let z : 0 + i ≡ i = omega arith in rw z at (any_low (λ j. names_block g (slot_at g v j) b) 0 i)
