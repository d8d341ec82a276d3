-- Each group passed so far is good, so what is still to be asked gives the whole.
use Rattle.load_header.proofs.HeaderLaws.{every_zero}
use Rattle.lists.proofs.BoundedLaws.{passed_next, passed_fails, passed_all}
use mathlib.Core.Path.{sym, ◌∙◌}
use borrow.Author.Rules.{rules}
use Rattle.load_header.proofs.are_good.Goals as goal

pub returns-then-not-is_good_group : goal.returns-then-not-is_good_group
returns-then-not-is_good_group c = sym (passed_fails c.loop-i.invariant (search rules) (sym c.is_good_group.ensures ∙ c.if-not-is_good_group.true)) ∙ every_zero _ _

pub loop-i-preserved : goal.loop-i-preserved
loop-i-preserved c = passed_next c.loop-i.invariant (search rules) (sym c.is_good_group.ensures ∙ c.if-not-is_good_group.false)

pub returns : goal.returns
returns c = sym (passed_all c.loop-i.invariant (search rules)) ∙ every_zero _ _
