-- By what measuring tells.
use Rattle.std.proofs.Common.{Result, ap, ◌∙◌}
use Rattle.std.proofs.lemmas.Result.{err_from_is_err_and}
use Rattle.gencmd_lines.specs.declared.Refusal.{Refusal}
use Rattle.gencmd_groups.specs.declared.Groups.{Groups}
use Rattle.gencmd_file.proofs.PlanLaws.{reach_within}
use Rattle.gencmd_file.specs.CodePlan.{plan_by, plan_of}
use Rattle.gencmd_file.proofs.planning.plan.Goals as goal

pub returns-in_err-reach-clause-value : goal.returns-in_err-reach-clause-value
unfolding plan_of
returns-in_err-reach-clause-value c =
    let p = err_from_is_err_and c.from_residual.result c.from_residual.ensures.1 in
    rw (p.1, p.2) (ap (λ (m : Result Groups Refusal). plan_by m c.args.room) c.in_err-reach.ensures)

pub plan_for-requires : goal.plan_for-requires
plan_for-requires c = reach_within c.args.text.now c.in_ok-reach.ensures

pub returns-clause-value : goal.returns-clause-value
unfolding plan_of
returns-clause-value c = c.plan_for.ensures.value ∙ ap (λ (m : Result Groups Refusal). plan_by m c.args.room) c.in_ok-reach.ensures
