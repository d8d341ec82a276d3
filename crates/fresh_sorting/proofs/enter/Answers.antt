-- Places above k are filled with what stood one below them, and none of these is below the number.
use mathlib.Core.Path.{◌≡◌, subst}
use Prim.Native.Nat.{ℕ, suc, ◌+◌, ◌-◌}
use native.Mathlib.Omega.{arith}
use Rattle.fresh_order.proofs.EnteredLaws.{Opened, opened_start, opened_next, opened_hit, opened_none}
use Rattle.fresh_sorting.proofs.enter.Goals as goal

pub loop-k-init : goal.loop-k-init
loop-k-init c = opened_start c.args.kept.now c.args.m c.args.key c.requires.0

pub returns-then-lower-key-clause-kept_after : goal.returns-then-lower-key-clause-kept_after
returns-then-lower-key-clause-kept_after c =
    let l = c.loop-k in
    let a = c.args in
    let z : l.k ≡ suc (l.k - 1) = omega arith in
    let y : l.k - 1 + 1 ≡ suc (l.k - 1) = omega arith in
    let o = subst (λ (x : ℕ). Opened a.kept.now a.m a.key l.kept x) z l.invariant in
    rw y (opened_hit a.kept.now a.m a.key l.kept (l.k - 1) o c.requires.1 c.if-lower-key.true)

pub loop-k-preserved : goal.loop-k-preserved
loop-k-preserved c =
    let l = c.loop-k in
    let a = c.args in
    let z : l.k ≡ suc (l.k - 1) = omega arith in
    let y : l.k - 1 + 1 ≡ suc (l.k - 1) = omega arith in
    let o = subst (λ (x : ℕ). Opened a.kept.now a.m a.key l.kept x) z l.invariant in
    rw y (opened_next a.kept.now a.m a.key l.kept (l.k - 1) o c.if-lower-key.false)

pub returns-clause-kept_after : goal.returns-clause-kept_after
returns-clause-kept_after c =
    let l = c.loop-k in
    let a = c.args in
    let z : l.k ≡ 0 = omega arith in
    opened_none a.kept.now a.m a.key l.kept (subst (λ (x : ℕ). Opened a.kept.now a.m a.key l.kept x) z l.invariant)
