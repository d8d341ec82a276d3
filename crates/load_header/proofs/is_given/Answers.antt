-- No group passed so far has the type, so what is still to be asked gives the whole.
use Rattle.lists.proofs.AnyLaws.{asked_next, asked_hit, asked_none}
use borrow.Author.Tests.{eq-eqb, ne_eqb}
use mathlib.Core.Path.{sym, ◌∙◌}
use borrow.Author.Rules.{rules}
use Rattle.load_header.proofs.is_given.Goals as goal

pub returns-then-type_at-kind : goal.returns-then-type_at-kind
returns-then-type_at-kind c = sym (asked_hit c.loop-j.invariant (search rules) (eq-eqb _ _ (sym c.type_at.ensures.0 ∙ c.if-type_at-kind.true)))

pub loop-j-preserved : goal.loop-j-preserved
loop-j-preserved c = asked_next c.loop-j.invariant (search rules) (ne_eqb _ _ (λ q. c.if-type_at-kind.false (c.type_at.ensures.0 ∙ q)))

pub returns : goal.returns
returns c = sym (asked_none c.loop-j.invariant (search rules))
