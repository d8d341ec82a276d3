-- No record passed so far is refused, so what is still to be asked gives the whole.
use Rattle.load_records.proofs.ReadLaws.{first_next, first_stop, first_end}
use mathlib.Core.List.{[]}
use mathlib.Core.Path.{sym, ◌∙◌}
use borrow.Author.Rules.{rules}
use Rattle.load_records.proofs.File.why_unread.Goals as goal

pub returns-then-not-is_none : goal.returns-then-not-is_none
returns-then-not-is_none c = first_stop c.loop-n.invariant (search rules) (c.show-why.ensures []).0 (sym c.is_none.ensures ∙ c.if-not-is_none.true)

pub loop-n-preserved : goal.loop-n-preserved
loop-n-preserved c = first_next c.loop-n.invariant (search rules) (c.show-why.ensures []).0 (sym c.is_none.ensures ∙ c.if-not-is_none.false)

pub returns : goal.returns
returns c = first_end c.loop-n.invariant (search rules)
