-- The plan carried out is what the call leaves.
use Rattle.std.proofs.Common.{Result, ap, ◌∙◌}
use Rattle.std.proofs.lemmas.Result.{err_from_is_err_and}
use Rattle.gencmd_lines.specs.declared.Refusal.{Refusal}
use Rattle.gencmd_groups.specs.declared.Groups.{Groups}
use Rattle.gencmd_file.proofs.PlanLaws.{carried_is}
use Rattle.gencmd_file.specs.CodePlan.{carried}
use Rattle.gencmd_file.proofs.gencmd.Goals as goal

pub returns-in_err-sizes : goal.returns-in_err-sizes
returns-in_err-sizes c =
    let t = c.args.text.now in
    let o = c.args.out.now in
    let p = err_from_is_err_and c.from_residual.result c.from_residual.ensures.1 in
    rw (p.1, p.2) (ap (λ (p : Result Groups Refusal). carried p t o) c.in_err-sizes.ensures.value ∙ carried_is t o)

pub returns : goal.returns
returns c =
    let t = c.args.text.now in
    let o = c.args.out.now in
    rw (c.file_length.ensures, c.write.ensures) (ap (λ (p : Result Groups Refusal). carried p t o) c.in_ok-sizes.ensures.value ∙ carried_is t o)
