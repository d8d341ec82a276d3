-- The slot's blocks are freed where its entry matches.
use mathlib.Core.Bool.{not}
use mathlib.Core.Path.{ap}
use borrow.Author.Tests.{not-true, not-false}
use Rattle.disk_volume.proofs.EntryLaws.{lent_slot}
use Rattle.call_delete.specs.Delete.{free_slot}
use Rattle.call_delete.proofs.free_slot.Goals as goal

pub returns-then-not-has : goal.returns-then-not-has
unfolding free_slot
returns-then-not-has c =
    let a = c.args in
    let at = c.slot_start-at in
    rw (← lent_slot a.g a.volume.now a.i at.result at.ensures.0, ← c.has.ensures, not-true c.has.result (ap not c.if-not-has.true))

pub returns : goal.returns
unfolding free_slot
returns c =
    let a = c.args in
    let at = c.slot_start-at in
    rw (← lent_slot a.g a.volume.now a.i at.result at.ensures.0, ← c.has.ensures, not-false c.has.result (ap not c.if-not-has.false)) c.free_entry.ensures
