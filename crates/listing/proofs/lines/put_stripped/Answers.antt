-- The bytes passed so far were appended without their top bits.
use Rattle.listing.proofs.ListingLaws.{strip_more}
use Rattle.text.proofs.WriterLaws.{none, then}
use Rattle.disk_volume.specs.Name.{strip}
use lib.Seq.{take_all}
use borrow.Author.Rules.{rules}
use Rattle.listing.proofs.lines.put_stripped.Goals as goal

pub loop-b-init : goal.loop-b-init
unfolding strip
loop-b-init c = none _

pub loop-b-preserved : goal.loop-b-preserved
loop-b-preserved c = rw (strip_more c.args.s.now c.loop-b.b-index (search rules)) (then c.loop-b.invariant c.byte.ensures)

pub returns : goal.returns
returns c = rw (take_all c.loop-b.b-index c.args.s.now (search rules)) at c.loop-b.invariant
