-- The sum so far and the bytes that are left add up to the sum of the line, modulo 256.
use Rattle.gencmd_lines.specs.Line.{sum_from, sum_of, bytes_in}
use Rattle.gencmd_lines.specs.Digits.{line_byte}
use Rattle.std.proofs.Common.{◌≡◌, ◌+◌, ◌-◌, ◌%◌}
use Rattle.gencmd_lines.proofs.line.sum_of.Given as goal

abbrev pub invariant-loop-i : goal.invariant-loop-i
invariant-loop-i l = (l.sum + sum_from (line_byte l.line) l.i (bytes_in l.line - l.i)) % 256 ≡ sum_of l.line
