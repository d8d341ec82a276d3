-- By the two ranges.
use Rattle.gencmd_lines.proofs.digits.is_digit.Goals as goal

pub returns : goal.returns
returns c = rw (c.is_letter.ensures, c.is_figure.ensures)
