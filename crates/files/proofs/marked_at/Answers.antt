-- The branches are the definition's, of the entry as it is lent.
use Rattle.disk_volume.proofs.EntryLaws.{lent_slot}
use Rattle.disk_volume.specs.Directory.{slot_at}
use Rattle.disk_volume.specs.Entry.{of_file}
use Rattle.disk_volume.specs.Name.{strip}
use mathlib.Core.Path.{◌≡◌}
use Rattle.files.proofs.marked_at.Goals as goal

pub returns-then-not-has : goal.returns-then-not-has
returns-then-not-has c =
    let a = c.args in
    let at = c.slot_start-at in
    let seen : of_file a.user (strip a.name.now) (slot_at a.g a.volume.now a.i) ≡ c.has.result = rw (← lent_slot a.g a.volume.now a.i at.result at.ensures.0, c.has.ensures) in
    rw (seen, c.if-not-has.true)

pub returns : goal.returns
returns c =
    let a = c.args in
    let at = c.slot_start-at in
    let seen : of_file a.user (strip a.name.now) (slot_at a.g a.volume.now a.i) ≡ c.has.result = rw (← lent_slot a.g a.volume.now a.i at.result at.ensures.0, c.has.ensures) in
    rw (seen, c.if-not-has.false, ← lent_slot a.g a.volume.now a.i at.result at.ensures.0)
