-- The plan is a refusal, or its body is rewritten as it was marked.
use Rattle.desk.proofs.ReplaceLaws.{code_refused, code_marked, code_done}
use Rattle.std.proofs.Common.{rules}
use Rattle.std.proofs.lemmas.Result.{err_from_is_err_and}
use Rattle.desk.proofs.replace.replace_most.Goals as goal

pub returns-in_err-first : goal.returns-in_err-first
returns-in_err-first c =
    let a = c.args in
    let p = err_from_is_err_and c.from_residual.result c.from_residual.ensures.1 in
    rw (p.1, p.2)
    (code_refused a.left.now a.drive a.volume.now a.fcb.now a.chapter a.old a.new c.front-front.ensures _ (c.plan.ensures a.drive.held) c.in_err-first.was)

pub rewrite_marked-requires : goal.rewrite_marked-requires
rewrite_marked-requires c =
    let a = c.args in
    let m = code_marked 0 a.drive a.volume.now a.fcb.now a.chapter a.old a.new c.front-front.ensures _ (c.plan.ensures a.drive.held) c.in_ok-first.was in
    (m.lent, (m.fits, search rules))

pub returns : goal.returns
returns c =
    let a = c.args in
    let w = c.rewrite_marked in
    code_done a.left.now a.drive a.volume.now a.fcb.now a.chapter a.old a.new c.front-front.ensures _
    (c.plan.ensures a.drive.held) c.in_ok-first.was w.ensures.value w.ensures.stored
