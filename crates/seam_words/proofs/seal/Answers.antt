-- Number and value are the definition's, where the value fits the high 16 bits.
use native.Mathlib.Omega.{arith}
use Rattle.seam_words.specs.Answered.{answered}
use Rattle.seam_words.proofs.seal.Goals as goal

pub returns : goal.returns
unfolding answered
returns c = (omega (arith, c.from-number.ensures, c.number.ensures), λ h. omega (arith, h, c.from-number.ensures, c.number.ensures, c.value.ensures))
