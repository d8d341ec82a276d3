-- The call with the copies is the call with what was lent.
use Rattle.seam_calls.proofs.copies.cut_with.Goals as goal

pub returns : goal.returns
returns c =
    let cuts = rw (c.copy_from_slice.ensures.after, c.copy_from_slice-2.ensures.after) at (c.call_most-told.ensures.cut_open_lem c.requires.drive_value) in
    rw c.refusal_told.ensures cuts
