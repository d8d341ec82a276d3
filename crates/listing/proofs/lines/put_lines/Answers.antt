-- The lines of the slots passed so far were appended.
use mathlib.Core.Path.{◌≡◌}
use native.Mathlib.Omega.{arith}
use Rattle.listing.proofs.ListingLaws.{next_line}
use Rattle.listing.specs.Listing.{lines_from}
use Rattle.text.proofs.WriterLaws.{none, then}
use Rattle.disk_geometry.specs.Geometry.{slots}
use Rattle.listing.proofs.lines.put_lines.Goals as goal

pub loop-i-init : goal.loop-i-init
unfolding lines_from
loop-i-init c = none _

pub loop-i-preserved : goal.loop-i-preserved
loop-i-preserved c = rw (next_line c.args.g c.args.volume.now c.loop-i.i) (then c.loop-i.invariant c.put_slot_line.ensures)

pub returns : goal.returns
returns c = let z : c.loop-i.i ≡ slots c.args.g = omega arith in rw (← z) c.loop-i.invariant
