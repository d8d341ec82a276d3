-- The lines that are still to come, laid over the bytes so far, make each byte what it is to be.
use lib.ListN.{length}
use Rattle.gencmd_lines.specs.Lines.{lines_of}
use Rattle.gencmd_lines.specs.CodeWalk.{left}
use Rattle.gencmd_groups.proofs.LayingLaws.{Laying}
use Rattle.gencmd_groups.proofs.laying.lay_group.Given as goal

abbrev pub invariant-loop-line : goal.invariant-loop-line
invariant-loop-line l = Laying (lines_of l.text) l.group (length l.initial.part) l.part (left l.line-iterator)
