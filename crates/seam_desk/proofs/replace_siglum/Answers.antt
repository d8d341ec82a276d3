-- The answer's number and its count are the two halves.
use mathlib.Core.Path.{◌∙◌}
use native.Mathlib.Omega.{arith}
use Rattle.seam_desk.proofs.SiglaLaws.{count_fits, replaced_is}
use Rattle.seam_desk.proofs.replace_siglum.Goals as goal

pub overflow_cast-matching : goal.overflow_cast-matching
overflow_cast-matching c = omega (arith, count_fits _ _ _ _ _ _ c.replace-reply.result c.replace-reply.ensures c.value-matching.ensures)

pub returns : goal.returns
returns c =
    replaced_is _ _ _ _ _ _ c.replace-reply.result c.replace-reply.ensures c.args.drive.now c.state-d.ensures
    (c.from-number.ensures ∙ c.number.ensures) c.value-matching.ensures c.halves.ensures
