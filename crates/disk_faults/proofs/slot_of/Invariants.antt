-- No slot passed so far has the block, so what is still to be searched gives the whole.
use Rattle.disk_rules.specs.GoodSlot.{names_block}
use Rattle.disk_volume.specs.Directory.{slot_at}
use Rattle.disk_geometry.specs.declared.Geometry.{Geometry}
use Rattle.lists.proofs.BoundedLaws.{Searched}
use Prim.Native.Nat.{ℕ}
use mathlib.Core.List.{List}
use mathlib.Core.Bool.{Bool}
use Rattle.disk_faults.proofs.slot_of.Given as goal

-- the test of slot j
abbrev pub names_at : Geometry → List ℕ → ℕ → ℕ → Bool
names_at g volume b j = names_block g (slot_at g volume j) b

abbrev pub invariant-loop-j : goal.invariant-loop-j
invariant-loop-j l = Searched (names_at l.g l.volume l.b) 0 l.i l.j
