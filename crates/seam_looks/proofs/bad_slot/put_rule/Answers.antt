-- The four bytes are the definition's.
use Rattle.numbers.specs.Numbers.{bytes_of}
use Rattle.seam_looks.proofs.bad_slot.put_rule.Goals as goal

pub returns-in-None : goal.returns-in-None
unfolding bytes_of
returns-in-None c = rw (c.in-None.is, c.fill.ensures.after (λ y h. h), c.requires)
