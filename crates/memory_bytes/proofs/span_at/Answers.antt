-- Start and length stand one behind the other.
use Rattle.memory_bytes.proofs.span_at.Goals as goal

pub returns : goal.returns
returns c = rw (c.two_at-start.ensures.0, c.two_at-length.ensures.0)
