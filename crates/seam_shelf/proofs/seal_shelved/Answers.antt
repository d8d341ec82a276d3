-- Number and value are the definition's.
use Rattle.seam_shelf.specs.Shelf.{shelved_answer}
use Rattle.seam_shelf.proofs.seal_shelved.Goals as goal

pub returns : goal.returns
unfolding shelved_answer
returns c = rw (c.halves.ensures, c.from-number.ensures, c.shelved_number.ensures, c.from-value.ensures, c.shelved_value.ensures)
