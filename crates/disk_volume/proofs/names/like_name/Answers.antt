-- The pattern matched the places passed so far, so what is left decides.
use mathlib.Core.Path.{sym, ◌∙◌}
use borrow.Author.Rules.{rules}
use Rattle.lists.proofs.BoundedLaws.{passed_start, passed_next, passed_fails, passed_all}
use Rattle.disk_volume.proofs.NameLaws.{like_places}
use Rattle.disk_volume.proofs.names.like_name.Goals as goal

pub loop-k-init : goal.loop-k-init
loop-k-init c = passed_start

pub returns : goal.returns
returns c =
    sym (like_places 11 c.args.name.now c.args.pattern.now (search rules) (search rules) ∙ passed_all c.loop-k.invariant (search rules))

pub returns-then-not-p-name : goal.returns-then-not-p-name
returns-then-not-p-name c =
    sym (like_places 11 c.args.name.now c.args.pattern.now (search rules) (search rules)
    ∙ passed_fails c.loop-k.invariant (search rules) c.if-not-p-name.true)

pub loop-k-preserved : goal.loop-k-preserved
loop-k-preserved c = passed_next c.loop-k.invariant (search rules) c.if-not-p-name.false
