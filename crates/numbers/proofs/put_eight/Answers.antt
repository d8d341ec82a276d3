-- std's eight bytes are the definition's.
use Rattle.numbers.proofs.NumberLaws.{to_le_bytes_lem}
use Rattle.numbers.proofs.put_eight.Goals as goal

pub returns : goal.returns
returns c = rw (c.copy_from_slice.ensures.after, c.to_le_bytes.ensures) (to_le_bytes_lem c.args.x)
