-- The eight bytes, each by its worth, are the number that the definition reads of them.
use Rattle.std.proofs.Common.{arith}
use Rattle.numbers.proofs.NumberLaws.{number_eight}
use Rattle.numbers.proofs.eight_of.Goals as goal

pub returns : goal.returns
returns c = rw (c.from_le_bytes.ensures, c.copy_from_slice.ensures.after) (omega (arith, number_eight c.args.b.now c.requires))
