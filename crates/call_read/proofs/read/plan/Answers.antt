-- A group's slot that was found is one of the file, so each way is a rung of the ladder.
use mathlib.Core.Path.{◌≡◌, ◌∙◌}
use native.Mathlib.Omega.{arith}
use Rattle.disk_volume.specs.Record.{record_slot}
use Rattle.disk_volume.specs.Name.{strip}
use Rattle.call_read.proofs.ReadLaws.{plan_in_lem, plan_missing, plan_none}
use Rattle.call_read.proofs.read.plan.Goals as goal

pub returns-then-slot-count : goal.returns-then-slot-count
unfolding record_slot
returns-then-slot-count c =
    let slot_is : (let a = c.args in c.find-slot.result ≡ record_slot a.g a.volume.now a.user (strip a.name.now) a.n) = rw (← c.group-group.ensures) c.find-slot.ensures.0 in
    let a = c.args in
    let s = slot_is in
    c.plan_in.ensures ∙ rw s (plan_in_lem a.g a.volume.now a.user (strip a.name.now) a.n a.missing c.requires.missing_value (omega arith))

pub returns-then-file-count : goal.returns-then-file-count
unfolding record_slot
returns-then-file-count c =
    let slot_is : (let a = c.args in c.find-slot.result ≡ record_slot a.g a.volume.now a.user (strip a.name.now) a.n) = rw (← c.group-group.ensures) c.find-slot.ensures.0 in
    let a = c.args in
    let s = slot_is in
    let f = c.find-file.ensures.0 in
    plan_missing a.g a.volume.now a.user (strip a.name.now) a.n a.missing c.requires.missing_value (omega arith) (omega arith)

pub returns : goal.returns
returns c =
    let a = c.args in
    let f = c.find-file.ensures.0 in
    plan_none a.g a.volume.now a.user (strip a.name.now) a.n a.missing c.requires.missing_value (omega arith)
