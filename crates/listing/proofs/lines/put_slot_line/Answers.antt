-- The branches are the definition's, of the entry as it is lent.
use Rattle.listing.specs.Listing.{line_at}
use Rattle.text.proofs.WriterLaws.{none}
use Rattle.disk_volume.proofs.EntryLaws.{lent_slot}
use Rattle.listing.proofs.lines.put_slot_line.Goals as goal

pub returns-then-is_listed : goal.returns-then-is_listed
unfolding line_at
returns-then-is_listed c =
    let a = c.args in
    let at = c.slot_start-s in
    rw (← lent_slot a.g a.volume.now a.i at.result at.ensures.0, ← c.is_listed.ensures, c.if-is_listed.true) c.put_line.ensures

pub returns-else-is_listed : goal.returns-else-is_listed
unfolding line_at
returns-else-is_listed c =
    let a = c.args in
    let at = c.slot_start-s in
    rw (← lent_slot a.g a.volume.now a.i at.result at.ensures.0, ← c.is_listed.ensures, c.if-is_listed.false) (none _)
