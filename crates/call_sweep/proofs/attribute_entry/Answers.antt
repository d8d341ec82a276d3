-- The two stores are those of the definition.
use Rattle.call_sweep.specs.Sweep.{attributed}
use Rattle.call_sweep.proofs.attribute_entry.Goals as goal

pub returns : goal.returns
unfolding attributed
returns c = rw (c.with_top_bit-read_only.ensures, c.with_top_bit-system.ensures)
