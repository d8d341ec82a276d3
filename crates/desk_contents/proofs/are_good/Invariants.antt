use Rattle.desk_contents.specs.Contents.{total, place_fits}
use Rattle.lists.proofs.BoundedLaws.{Passed}
use Prim.Native.Nat.{◌≤◌, ◌*◌}
use mathlib.Core.Path.{◌≡◌}
use Rattle.desk_contents.proofs.are_good.Given as goal

-- Each place passed so far is good, and the records that they list are carried along.

abbrev pub invariant-loop-i : goal.invariant-loop-i
invariant-loop-i l = (l.below ≡ total l.s l.i) × ((l.below ≤ 65536 * l.i) × Passed (place_fits l.s) 0 16 l.i)
