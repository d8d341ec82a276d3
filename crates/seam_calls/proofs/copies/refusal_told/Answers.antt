-- The branches are the definition's.
use Rattle.seam_calls.proofs.copies.refusal_told.Goals as goal

pub returns : goal.returns
returns c = rw c.if-told.false
