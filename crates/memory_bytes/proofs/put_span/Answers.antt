-- The four bytes are the definition's.
use Rattle.memory_bytes.specs.TableBytes.{span_laid}
use Rattle.numbers.specs.Numbers.{bytes_of}
use Rattle.memory_bytes.proofs.put_span.Goals as goal

pub returns : goal.returns
unfolding span_laid bytes_of
returns c = rw (c.to_le_bytes.ensures, c.to_le_bytes-2.ensures) at c.copy_from_slice.ensures.after
