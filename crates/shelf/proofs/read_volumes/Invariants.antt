-- The shelf has the figures of the volumes read so far, of which there are at most 65,535.
use mathlib.Core.Path.{◌≡◌}
use mathlib.Core.List.{List}
use Prim.Native.Nat.{ℕ}
use lib.ListN.{length}
use Rattle.shelf_figures.specs.declared.Shelf.{Shelf}
use Rattle.shelf_report.specs.Room.{OfVolumes}
use Rattle.shelf.proofs.ReadingLaws.{left}
use Rattle.shelf.proofs.read_volumes.Given as goal

pub record SoFar (volume₀ volume : List ℕ) (shelf : Shelf) : Type 0 where
  pub long : length volume ≡ length volume₀
  pub of_volumes : OfVolumes shelf

abbrev pub invariant-loop-more : goal.invariant-loop-more
invariant-loop-more g l = SoFar l.initial.volume l.volume l.shelf

abbrev pub decreases-loop-more : goal.decreases-loop-more
decreases-loop-more g l = left l.shelf l.more
