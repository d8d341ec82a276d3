-- `disk_held::held_below` meets its contract. The loop has the count of the words passed, and below n there is a part of one more.
use mathlib.Core.Path.{◌≡◌, refl, ap, ◌∙◌}
use Prim.Native.Nat.{◌+◌, ◌*◌, ◌/◌, ◌%◌}
use native.Mathlib.Omega.{arith}
use Rattle.lists.specs.Bounded.{count_from}
use Rattle.disk_held.specs.Held.{holds}
use Rattle.disk_held.proofs.held_below.Invariants.{more}
use Rattle.disk_held.proofs.held_below.Goals as goal

pub loop-i-init : goal.loop-i-init
unfolding count_from
loop-i-init c = (omega arith, refl)

pub loop-i-preserved : goal.loop-i-preserved
loop-i-preserved c =
    let l = c.loop-i in
    let held = c.args.held.now in
    let z : 64 * l.i + 64 ≡ 64 * (l.i + 1) = omega arith in
    (omega arith, more held l.i 64 l.sum c.ones_below-sum.result (omega arith) l.invariant.1 c.ones_below-sum.ensures.0 ∙ ap (count_from (holds held) 0) z)

pub returns-then-rest-eq0 : goal.returns-then-rest-eq0
returns-then-rest-eq0 c =
    let l = c.loop-i in
    let a = c.args in
    let z : 64 * l.i ≡ a.n = omega (arith, c.if-rest-eq0.true) in
    l.invariant.1 ∙ ap (count_from (holds a.held.now) 0) z

pub overflow_add-result : goal.overflow_add-result
overflow_add-result c = omega arith

pub returns : goal.returns
returns c =
    let l = c.loop-i in
    let a = c.args in
    let e : l.i ≡ a.n / 64 = omega arith in
    let z : 64 * (a.n / 64) + a.n % 64 ≡ a.n = omega arith in
    more a.held.now (a.n / 64) (a.n % 64) l.sum c.ones_below.result (omega arith) (rw e at l.invariant.1) c.ones_below.ensures.0 ∙ ap (count_from (holds a.held.now) 0) z
