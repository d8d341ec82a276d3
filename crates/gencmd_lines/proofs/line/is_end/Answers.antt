-- By the fourth byte.
use Rattle.gencmd_lines.proofs.line.is_end.Goals as goal

pub returns : goal.returns
returns c = rw c.line_byte.ensures
