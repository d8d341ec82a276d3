-- Each number stands at its place.
use Rattle.memory_bytes.proofs.mcb_of.Goals as goal

pub returns : goal.returns
returns c = rw (c.two_at-base.ensures.0, c.two_at-length.ensures.0, c.byte_at.ensures)
