-- The test is the definition's own text.
use Rattle.disk_volume.specs.Record.{counted}
use Rattle.call_read.proofs.read.is_counted.Goals as goal

pub returns : goal.returns
unfolding counted
returns c = rw (← c.place.ensures.0, ← c.block_in-block.ensures.0, ← c.count_of.ensures.0, ← c.from-count.ensures)
