-- The first 12 bytes of the slot's entry.
use mathlib.Core.Path.{◌∙◌}
use Rattle.seam_looks.proofs.FaultLaws.{owner_lent}
use Rattle.seam_looks.proofs.bad_slot.put_owner.Goals as goal

pub returns : goal.returns
returns c =
    let a = c.args in
    c.copy_from_slice.ensures.after ∙ owner_lent a.g a.volume.now c.requires.0 a.i c.requires.1.1 c.slot_start-at.result c.slot_start-at.ensures.0
