-- The number and the length of the answer, which fits 32 bits.
use mathlib.Core.Path.{ap}
use native.Mathlib.Omega.{arith}
use Rattle.gencmd_file.specs.Gencmd.{After, length_of}
use Rattle.gencmd_file.proofs.LengthLaws.{answer_within}
use Rattle.seam_gencmd.specs.Gencmd.{packed, sealed_after, gencmd_at_seam}
use Rattle.seam_gencmd.proofs.gencmd.Goals as goal

pub overflow_cast-length : goal.overflow_cast-length
overflow_cast-length c =
    let a = c.args in
    omega (arith, c.length_of-length.ensures, ap (λ (x : After). length_of x.answer) c.gencmd-answer.ensures, answer_within a.text.now a.out.now)

pub returns : goal.returns
unfolding packed gencmd_at_seam
returns c =
    rw (c.with_high.ensures, c.from-number.ensures, c.number.ensures, c.length_of-length.ensures) (ap sealed_after c.gencmd-answer.ensures)
