-- No form passed so far is 0, so what is still to be searched gives the whole.
use native.Mathlib.Omega.{arith}
use Rattle.load_header.specs.Header.{groups, descriptors}
use Rattle.lists.proofs.BoundedLaws.{searched_next, searched_hit, searched_none}
use borrow.Author.Tests.{eq-eqb, ne_eqb}
use mathlib.Core.Path.{◌≡◌, sym, ◌∙◌}
use borrow.Author.Rules.{rules}
use Rattle.load_header.proofs.groups.Goals as goal

pub returns-then-form_at-eq0 : goal.returns-then-form_at-eq0
unfolding groups
returns-then-form_at-eq0 c = (sym (searched_hit c.loop-i.invariant (search rules) (eq-eqb _ 0 (sym c.form_at.ensures.0 ∙ c.if-form_at-eq0.true))), search rules)

pub loop-i-preserved : goal.loop-i-preserved
loop-i-preserved c = searched_next c.loop-i.invariant (search rules) (ne_eqb _ 0 (λ q. c.if-form_at-eq0.false (c.form_at.ensures.0 ∙ q)))

pub returns : goal.returns
unfolding groups
returns c = let z : descriptors ≡ c.loop-i.i = omega arith in (z ∙ sym (searched_none c.loop-i.invariant (search rules)), search rules)
