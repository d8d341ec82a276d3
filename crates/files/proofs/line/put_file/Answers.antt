-- The entry that is lent is the one in slot i.
use Rattle.disk_volume.proofs.EntryLaws.{lent_slot}
use Rattle.files.proofs.line.put_file.Goals as goal

pub returns : goal.returns
returns c =
    let a = c.args in
    rw (← lent_slot a.g a.volume.now a.i c.slot_start-at.result c.slot_start-at.ensures.0) c.put_file_of.ensures
