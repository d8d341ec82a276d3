-- The lines of the slots passed so far were appended.
use Rattle.listing.specs.Listing.{lines_from}
use Rattle.text.specs.Writer.{Appends}
use Rattle.listing.proofs.lines.put_lines.Given as goal

abbrev pub invariant-loop-i : goal.invariant-loop-i
invariant-loop-i l = Appends l.initial.w (lines_from l.g l.volume 0 l.i) l.w
