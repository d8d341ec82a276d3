-- The digits passed so far are digits, so what is left to be looked at decides.
use Rattle.gencmd_lines.specs.Line.{digit_at, digits_in}
use Rattle.lists.proofs.BoundedLaws.{Passed}
use Rattle.gencmd_lines.proofs.line.is_spelled.Given as goal

abbrev pub invariant-loop-c : goal.invariant-loop-c
invariant-loop-c l = Passed (digit_at l.line) 0 (digits_in l.line) l.c-index
