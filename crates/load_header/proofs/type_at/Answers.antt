-- Nine is read as one.
use Rattle.load_header.specs.Header.{type_at}
use borrow.Author.Tests.{eq-eqb, ne_eqb}
use native.Mathlib.Omega.{arith}
use Prim.Native.Nat.{ℕ, ◌%◌}
use mathlib.Core.Path.{sym, ap, ◌∙◌}
use borrow.Author.Rules.{rules}
use Rattle.load_header.proofs.type_at.Goals as goal

pub returns-then-low-eq-SHARED_CODE : goal.returns-then-low-eq-SHARED_CODE
unfolding type_at
returns-then-low-eq-SHARED_CODE c = (rw (eq-eqb _ 9 (ap (λ (x : ℕ). x % 16) (sym c.form_at-low.ensures.0) ∙ c.if-low-eq-SHARED_CODE.true)), search rules)

pub returns-else-low-eq-SHARED_CODE : goal.returns-else-low-eq-SHARED_CODE
unfolding type_at
returns-else-low-eq-SHARED_CODE c =
    let e = ap (λ (x : ℕ). x % 16) c.form_at-low.ensures.0 in
    (rw (ne_eqb _ 9 (λ q. c.if-low-eq-SHARED_CODE.false (e ∙ q))) e, omega arith)
