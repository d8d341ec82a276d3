-- Data byte by data byte.
use Rattle.gencmd_groups.specs.CodeLaying.{lay_byte}
use Rattle.gencmd_lines.specs.Line.{count_of}
use Rattle.lists.proofs.FoldLaws.{Folded}
use Rattle.gencmd_groups.proofs.laying.lay_line.Given as goal

abbrev pub invariant-loop-i : goal.invariant-loop-i
invariant-loop-i l = Folded (lay_byte l.line) l.initial.part (count_of l.line) l.part l.i
