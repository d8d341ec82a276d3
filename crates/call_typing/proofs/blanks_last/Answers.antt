-- No blank passed so far stands just before a non-blank, so what is left decides.
use mathlib.Core.Path.{sym, ap, ◌∙◌}
use mathlib.Core.Bool.{not}
use borrow.Author.Rules.{rules}
use Rattle.lists.proofs.BoundedLaws.{passed_start, passed_next, passed_fails, passed_all}
use Rattle.call_typing.proofs.TypingLaws.{last_places}
use Rattle.call_typing.proofs.blanks_last.Goals as goal

pub loop-k-init : goal.loop-k-init
loop-k-init c = passed_start

pub returns-then-field-k : goal.returns-then-field-k
returns-then-field-k c =
    sym (last_places c.args.field.now ∙ passed_fails c.loop-k.invariant (search rules) (ap not c.if-field-k.true))

pub loop-k-preserved : goal.loop-k-preserved
loop-k-preserved c = passed_next c.loop-k.invariant (search rules) (ap not c.if-field-k.false)

pub returns : goal.returns
returns c =
    sym (last_places c.args.field.now ∙ passed_all c.loop-k.invariant (search rules))
