-- Group by group.
use Rattle.gencmd_groups.specs.Groups.{sizes_of}
use Rattle.gencmd_groups.proofs.sizing.sizes.Goals as goal

pub returns : goal.returns
unfolding sizes_of
returns c = rw (c.paragraphs_of-4.ensures, c.paragraphs_of-3.ensures, c.paragraphs_of-2.ensures, c.paragraphs_of.ensures, c.least_code.ensures)
