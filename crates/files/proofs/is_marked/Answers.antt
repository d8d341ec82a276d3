-- None of the slots passed so far has the mark for the file, so what is still to be asked gives the whole.
use Rattle.files.specs.Files.{is_marked}
use Rattle.lists.proofs.AnyLaws.{asked_next, asked_hit, asked_none}
use mathlib.Core.Path.{sym, ◌∙◌}
use borrow.Author.Rules.{rules}
use Rattle.files.proofs.is_marked.Goals as goal

pub returns-then-marked_at : goal.returns-then-marked_at
unfolding is_marked
returns-then-marked_at c = sym (asked_hit c.loop-i.invariant (search rules) (sym c.marked_at.ensures ∙ c.if-marked_at.true))

pub loop-i-preserved : goal.loop-i-preserved
loop-i-preserved c = asked_next c.loop-i.invariant (search rules) (sym c.marked_at.ensures ∙ c.if-marked_at.false)

pub returns : goal.returns
unfolding is_marked
returns c = sym (asked_none c.loop-i.invariant (search rules))
