-- The two lowest bytes.
use Rattle.numbers.specs.Numbers.{bytes_of}
use Rattle.gencmd_file.proofs.header.put_two.Goals as goal

pub returns : goal.returns
unfolding bytes_of
returns c = rw c.to_le_bytes.ensures at c.bytes.ensures
