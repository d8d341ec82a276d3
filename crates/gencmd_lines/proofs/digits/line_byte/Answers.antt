-- Two digits.
use Rattle.gencmd_lines.specs.Digits.{line_byte}
use Rattle.gencmd_lines.proofs.digits.line_byte.Goals as goal

pub returns : goal.returns
unfolding line_byte
returns c = cc
