-- None of the slots passed so far has the group, so what is still to be asked gives the whole.
use mathlib.Core.Path.{◌≡◌, sym, ◌∙◌}
use borrow.Author.Rules.{rules}
use Rattle.disk_volume.proofs.EntryLaws.{lent_slot}
use Rattle.lists.proofs.AnyLaws.{asked_next, asked_hit, asked_none}
use Rattle.disk_marks.proofs.is_in_lower.Invariants.{group_at}
use Rattle.disk_marks.proofs.is_in_lower.Goals as goal

pub returns-then-has : goal.returns-then-has
returns-then-has c =
    let seen : (let a = c.args in c.has.result ≡ group_at a.g a.volume.now a.user a.name.now a.k c.loop-j.j) = (let a = c.args in
    let at = c.slot_start-at in
    rw (← lent_slot a.g a.volume.now c.loop-j.j at.result at.ensures.0) c.has.ensures) in
    sym (asked_hit c.loop-j.invariant (search rules) (sym seen ∙ c.if-has.true))

pub loop-j-preserved : goal.loop-j-preserved
loop-j-preserved c =
    let seen : (let a = c.args in c.has.result ≡ group_at a.g a.volume.now a.user a.name.now a.k c.loop-j.j) = (let a = c.args in
    let at = c.slot_start-at in
    rw (← lent_slot a.g a.volume.now c.loop-j.j at.result at.ensures.0) c.has.ensures) in
    asked_next c.loop-j.invariant (search rules) (sym seen ∙ c.if-has.false)

pub returns : goal.returns
returns c = sym (asked_none c.loop-j.invariant (search rules))
