-- A bad slot is one of the volume.
use mathlib.Core.Path.{sym, ◌∙◌}
use Rattle.seam_looks.proofs.FaultLaws.{bad_slot_lem}
use borrow.Author.Rules.{rules}
use Rattle.seam_looks.proofs.bad_slot.put_fault_for.Goals as goal

pub put_fault-requires : goal.put_fault-requires
put_fault-requires c =
    let a = c.args in
    let known = bad_slot_lem a.g a.volume.now _ (sym c.requires.1 ∙ c.in-BadSlot.is) in
    (known.volume, (search rules, known.inside))
