-- The refusals of the file, then what record 0 says.
use Rattle.std.proofs.Common.{rules, sym, ap, ◌∙◌, ℕ, List, []}
use Rattle.std.proofs.lemmas.Result.{err_from_is_err_and}
use Rattle.call_answers.specs.Refusal.{is_none}
use Rattle.desk.proofs.ReplaceLaws.{lent_fcb_lem, refused_file, refused_record, told}
use Rattle.desk.proofs.replace.plan.Goals as goal

pub returns-in_err-passed : goal.returns-in_err-passed
returns-in_err-passed c = λ (held : List ℕ).
    let p = err_from_is_err_and c.from_residual.result c.from_residual.ensures.1 in
    rw (p.1, p.2, c.in_err-passed.ensures.0) (refused_file _ _ _ _ (c.change_why.ensures held) c.in_err-passed.ensures.1, tt)

pub show-requires : goal.show-requires
show-requires c = (lent_fcb_lem _ _ _ (ap is_none (sym (c.change_why.ensures [])) ∙ c.in_ok-passed.ensures), search rules)

pub returns-in_err-passed-2 : goal.returns-in_err-passed-2
returns-in_err-passed-2 c = λ (held : List ℕ).
    let p = err_from_is_err_and c.from_residual-in_err-passed-2.result c.from_residual-in_err-passed-2.ensures.1 in
    let file = ap is_none (sym (c.change_why.ensures held)) ∙ c.in_ok-passed.ensures in
    rw (p.1, p.2, c.in_err-passed-2.ensures.0) (refused_record _ _ _ _ file (c.show.ensures held).0 c.in_err-passed-2.ensures.1, tt)

pub plan_in-requires : goal.plan_in-requires
plan_in-requires c = (lent_fcb_lem _ _ _ (ap is_none (sym (c.change_why.ensures [])) ∙ c.in_ok-passed.ensures), search rules)

pub returns : goal.returns
returns c = λ (held : List ℕ).
    let file = ap is_none (sym (c.change_why.ensures held)) ∙ c.in_ok-passed.ensures in
    (told _ _ _ _ file (c.show.ensures held).0 c.in_ok-passed-2.ensures (c.show.ensures held).1 (c.plan_in.ensures held).0, (c.plan_in.ensures held).1)
