-- The entry in the slot is the one that is lent.
use mathlib.Core.Path.{◌≡◌}
use borrow.Author.Rules.{rules}
use Rattle.disk_volume.specs.Directory.{slot_at}
use Rattle.disk_volume.proofs.EntryLaws.{lent_slot}
use Rattle.call_size.specs.Size.{entry_end}
use Rattle.call_size.proofs.larger_at.Goals as goal

pub returns : goal.returns
returns c =
    let end : (let a = c.args in entry_end (slot_at a.g a.volume.now a.i) ≡ c.entry_end-end.result) = (let a = c.args in
    let at = c.slot_start-at in
    rw (← lent_slot a.g a.volume.now a.i at.result at.ensures.0, c.entry_end-end.ensures.0)) in
    (rw end (search rules), search rules)
