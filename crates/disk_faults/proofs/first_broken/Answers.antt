-- The entry that is lent is the one in slot i; what code finds is the first rule.
use Rattle.disk_volume.proofs.EntryLaws.{lent_slot}
use Rattle.disk_faults.proofs.LadderLaws.{ladder}
use mathlib.Core.Path.{◌∙◌}
use borrow.Author.Rules.{rules}
use Rattle.disk_faults.proofs.first_broken.Goals as goal

pub invariant_of-slot : goal.invariant_of-slot
invariant_of-slot c =
    let a = c.args in
    record { stands = (search rules, (search rules, (search rules, lent_slot a.g a.volume.now a.i c.slot_start-at.result c.slot_start-at.ensures.0))) }

pub returns : goal.returns
returns c = c.fault.ensures ∙ ladder _ _ _ c.requires.1
