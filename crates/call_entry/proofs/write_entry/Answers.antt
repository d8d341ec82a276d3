-- Growing, and then the block in its place, is the definition's order.
use Rattle.call_entry.specs.Grown.{written_entry}
use Rattle.call_entry.proofs.write_entry.Goals as goal

pub returns : goal.returns
unfolding written_entry
returns c = rw (c.with_block.ensures, c.place-p.ensures.0, c.grow.ensures)
