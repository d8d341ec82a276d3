-- The copy of the caller's geometry, and its answer as one number.
use Rattle.seam_fresh.proofs.FreshLaws.{fresh_left}
use Rattle.seam_fresh.proofs.copy.Goals as goal

pub returns : goal.returns
returns c =
    let a = c.args in
    rw (← c.geometry-g.ensures)
    (fresh_left _ a.first.now a.second.now c.fresh_copy-answer.ensures c.seal.ensures.1)
