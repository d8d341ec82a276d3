-- The bytes passed so far were appended without their top bits.
use lib.ListN.{take}
use Rattle.text.specs.Writer.{Appends}
use Rattle.disk_volume.specs.Name.{strip}
use Rattle.listing.proofs.lines.put_stripped.Given as goal

abbrev pub invariant-loop-b : goal.invariant-loop-b
invariant-loop-b l = Appends l.initial.w (strip (take l.b-index l.s)) l.w
