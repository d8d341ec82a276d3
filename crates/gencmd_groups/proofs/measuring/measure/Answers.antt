-- The reach so far and the lines that are still to come tell what all lines tell.
use Rattle.std.proofs.Common.{ap, sym, ◌∙◌}
use Rattle.std.proofs.lemmas.Result.{err_from_is_err_and}
use Rattle.gencmd_lines.specs.CodeWalk.{left}
use Rattle.gencmd_groups.proofs.MeasureLaws.{measuring_start, measuring_refused, measuring_end, measuring_next, measuring_none}
use Rattle.gencmd_groups.proofs.measuring.measure.Goals as goal

pub loop-line-init : goal.loop-line-init
loop-line-init c = measuring_start (ap left c.into_iter-line-iterator.ensures.into_iter_gives ∙ c.new-line-items.ensures)

pub returns-in_err-line_why : goal.returns-in_err-line_why
returns-in_err-line_why c =
    let p = err_from_is_err_and c.from_residual.result c.from_residual.ensures.1 in
    rw (p.1, p.2) (measuring_refused c.loop-line.invariant c.in-Some.ensures.steps c.in_err-line_why.ensures)

pub returns-then-is_end : goal.returns-then-is_end
returns-then-is_end c =
    measuring_end c.loop-line.invariant c.in-Some.ensures.steps c.in_ok-line_why.ensures (sym c.is_end.ensures ∙ c.if-is_end.true)

pub loop-line-preserved : goal.loop-line-preserved
loop-line-preserved c =
    measuring_next c.loop-line.invariant c.in-Some.ensures.steps c.in_ok-line_why.ensures (sym c.is_end.ensures ∙ c.if-is_end.false) c.reach_over-reach.ensures

pub returns : goal.returns
returns c = measuring_none c.loop-line.invariant c.in-None.ensures.steps.0
