-- The load over the front in the drive's bytes, sealed.
use Rattle.seam_memory.proofs.LoadLaws.{paragraph_low, load_sealed}
use Rattle.seam_memory.proofs.load.Goals as goal

pub seal_load-requires : goal.seal_load-requires
seal_load-requires c =
    paragraph_low _ _ _ _ _ c.front-front.ensures c.load-answer.ensures

pub returns : goal.returns
returns c =
    load_sealed _ _ _ _ _ c.front-front.ensures c.load-answer.ensures c.seal_load.ensures
