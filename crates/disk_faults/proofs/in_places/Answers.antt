-- No place passed so far has the block, so what is still to be asked gives the whole.
use mathlib.Core.Path.{sym, ◌∙◌}
use borrow.Author.Rules.{rules}
use borrow.Author.Tests.{eq-eqb, ne_eqb}
use Rattle.lists.proofs.AnyLaws.{asked_next, asked_hit, asked_none}
use Rattle.disk_rules.specs.GoodSlot.{in_places}
use Rattle.disk_faults.proofs.in_places.Goals as goal

pub returns-then-block_in-b : goal.returns-then-block_in-b
unfolding in_places
returns-then-block_in-b c = sym (asked_hit c.loop-p.invariant (search rules) (eq-eqb _ _ (sym c.block_in.ensures.0 ∙ c.if-block_in-b.true)))

pub loop-p-preserved : goal.loop-p-preserved
loop-p-preserved c = asked_next c.loop-p.invariant (search rules) (ne_eqb _ _ (λ q. c.if-block_in-b.false (c.block_in.ensures.0 ∙ q)))

pub returns : goal.returns
unfolding in_places
returns c = sym (asked_none c.loop-p.invariant (search rules))
