-- What is still to be rewritten from here with what is left gives the whole, and so does the count.
use Rattle.std.proofs.Common.{◌≡◌, ◌<◌, ◌≤◌, ◌+◌, ◌-◌, arith}
use Rattle.desk.proofs.LoopLaws.{going_next, going_end}
use Rattle.desk.proofs.replace.rewrite_marked.Goals as goal

pub loop-n-preserved : goal.loop-n-preserved
loop-n-preserved c =
    let r = c.rewrite_if-count in
    let n = c.loop-n.n in
    let first = c.args.first in
    let i : first + (n - first) ≡ n = omega arith in
    let next : n + 1 - first ≡ n - first + 1 = omega arith in
    let fits : n - first < c.args.k = omega arith in
    let g = going_next _ _ _ _ _ _ _ _ c.loop-n.invariant.1 fits (rw i r.ensures.value.0) r.ensures.value.1 (rw i r.ensures.stored) in
    rw next (g.few, g)

pub returns-clause-value : goal.returns-clause-value
returns-clause-value c = let past : c.args.k ≤ c.loop-n.n - c.args.first = omega arith in (going_end _ _ _ _ _ _ _ _ c.loop-n.invariant.1 past).0

pub returns-clause-stored : goal.returns-clause-stored
returns-clause-stored c = let past : c.args.k ≤ c.loop-n.n - c.args.first = omega arith in (going_end _ _ _ _ _ _ _ _ c.loop-n.invariant.1 past).1
