-- Where nothing refuses, the entry that is lent from the slot is the slot's.
use Rattle.disk_volume.proofs.EntryLaws.{lent_slot}
use mathlib.Core.Path.{sym, ◌∙◌}
use Rattle.call_open.proofs.open_file.Goals as goal

pub returns-then-is_none : goal.returns-then-is_none
returns-then-is_none c =
    let a = c.args in
    let slot = c.slot_to_open-slot.result in
    let n = sym c.is_none.ensures ∙ c.if-is_none.true in record { why_value = rw (← c.slot_to_open-slot.ensures.0) c.slot_why-why.ensures.value; slot_value = c.slot_to_open-slot.ensures.0; fcb_after = rw (n, ← lent_slot a.g a.volume.now slot c.slot_start-at.result c.slot_start-at.ensures.0) c.set_open.ensures }
