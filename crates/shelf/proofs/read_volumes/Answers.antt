-- The shelf has the figures of the volumes read so far, of which there are at most 65,535.
use mathlib.Core.Path.{◌≡◌}
use native.Mathlib.Omega.{arith}
use Rattle.shelf_figures.specs.declared.Shelf.{Shelf}
use Rattle.shelf_figures.specs.Shelf.{bare}
use Rattle.shelf_figures.proofs.OrderLaws.{bare_within}
use Rattle.shelf_report.specs.Room.{OfVolumes}
use Rattle.shelf.proofs.ReadingLaws.{next_read}
use borrow.Author.Rules.{rules}
use Rattle.shelf.proofs.read_volumes.Goals as goal

-- a bare shelf has seen none
none_seen : (s : Shelf) → s ≡ bare → OfVolumes s
none_seen s e = rw e (record { many = 0; few = omega arith; within = bare_within })

pub loop-more-init : goal.loop-more-init
loop-more-init g c = record { long = search rules; of_volumes = search (rules, none_seen) }

pub loop-more-smaller : goal.loop-more-smaller
loop-more-smaller g c = rw c.loop-more-test.true (next_read _ _ _ c.after_read-reading.ensures c.loop-more.invariant.of_volumes).fewer

pub loop-more-preserved : goal.loop-more-preserved
loop-more-preserved g c = record { long = search rules; of_volumes = (next_read _ _ _ c.after_read-reading.ensures c.loop-more.invariant.of_volumes).of_volumes }
