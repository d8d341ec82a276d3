-- The two tests are the definition's, on the entry that is lent from the slot.
use mathlib.Core.Bool.{not}
use mathlib.Core.Path.{ap}
use borrow.Author.Tests.{not-true, not-false}
use Rattle.disk_volume.proofs.EntryLaws.{lent_slot}
use Rattle.call_read.specs.CodePlan.{plan_in}
use Rattle.call_read.proofs.read.plan_in.Goals as goal

pub returns-then-not-is_counted : goal.returns-then-not-is_counted
unfolding plan_in
returns-then-not-is_counted c =
    let a = c.args in
    let at = c.slot_start-at in
    rw (← lent_slot a.g a.volume.now a.slot at.result at.ensures.0, ← c.is_counted.ensures, not-true c.is_counted.result (ap not c.if-not-is_counted.true))

pub returns-then-not-is_inside : goal.returns-then-not-is_inside
unfolding plan_in
returns-then-not-is_inside c =
    let a = c.args in
    let at = c.slot_start-at in
    rw (
      ← lent_slot a.g a.volume.now a.slot at.result at.ensures.0,
      ← c.is_counted.ensures,
      not-false c.is_counted.result (ap not c.if-not-is_counted.false),
      ← c.place.ensures.0,
      ← c.block_in-block.ensures.0,
      ← c.is_inside.ensures,
      not-true c.is_inside.result (ap not c.if-not-is_inside.true),
    )

pub returns : goal.returns
unfolding plan_in
returns c =
    let a = c.args in
    let at = c.slot_start-at in
    rw (
      ← lent_slot a.g a.volume.now a.slot at.result at.ensures.0,
      ← c.is_counted.ensures,
      not-false c.is_counted.result (ap not c.if-not-is_counted.false),
      ← c.place.ensures.0,
      ← c.block_in-block.ensures.0,
      ← c.is_inside.ensures,
      not-false c.is_inside.result (ap not c.if-not-is_inside.false),
    )
