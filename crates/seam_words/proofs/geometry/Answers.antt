-- Each number as a size.
use Rattle.seam_words.proofs.geometry.Goals as goal

pub returns : goal.returns
returns c =
    rw (c.size.ensures, c.size-2.ensures, c.size-3.ensures, c.size-4.ensures)
