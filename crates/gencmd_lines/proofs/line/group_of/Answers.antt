-- By the fourth byte.
use Rattle.gencmd_lines.proofs.line.group_of.Goals as goal

pub returns : goal.returns
returns c = rw (c.group_of_type.ensures, c.line_byte.ensures)
