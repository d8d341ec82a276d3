-- The reach so far and the lines that are still to come tell what all lines tell.
use Rattle.gencmd_lines.specs.Lines.{lines_of}
use Rattle.gencmd_lines.specs.CodeWalk.{left}
use Rattle.gencmd_groups.proofs.MeasureLaws.{Measuring}
use Rattle.gencmd_groups.proofs.measuring.measure.Given as goal

abbrev pub invariant-loop-line : goal.invariant-loop-line
invariant-loop-line l = Measuring l.reach (left l.line-iterator) (lines_of l.text)
