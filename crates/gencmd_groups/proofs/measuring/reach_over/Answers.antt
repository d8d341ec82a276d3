-- Group by group.
use Rattle.gencmd_groups.proofs.measuring.reach_over.Goals as goal

pub returns : goal.returns
returns c = rw (c.larger-4.ensures, c.larger-3.ensures, c.larger-2.ensures, c.larger.ensures, c.address_of.ensures.0, c.count_of-count.ensures.0, c.group_of-group.ensures)
