-- None of the slots passed so far has the group, so what is still to be asked gives the whole.
use mathlib.Core.Bool.{Bool}
use mathlib.Core.List.{List}
use Prim.Native.Nat.{ℕ}
use Rattle.disk_geometry.specs.declared.Geometry.{Geometry}
use Rattle.disk_volume.specs.Name.{strip}
use Rattle.disk_volume.specs.Entry.{of_group}
use Rattle.disk_volume.specs.Directory.{slot_at}
use Rattle.lists.proofs.AnyLaws.{AnySoFar}
use Rattle.disk_marks.proofs.is_in_lower.Given as goal

-- the test of slot j
abbrev pub group_at : Geometry → List ℕ → ℕ → List ℕ → ℕ → ℕ → Bool
group_at g volume user name k j = of_group g user (strip name) k (slot_at g volume j)

abbrev pub invariant-loop-j : goal.invariant-loop-j
invariant-loop-j l = AnySoFar (group_at l.g l.volume l.user l.name l.k) l.n l.j
