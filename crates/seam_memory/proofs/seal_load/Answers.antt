-- Number and value are the definition's.
use native.Mathlib.Omega.{arith}
use Rattle.seam_memory.specs.Load.{load_answered}
use Rattle.seam_memory.proofs.seal_load.Goals as goal

pub overflow_cast-value : goal.overflow_cast-value
overflow_cast-value c = omega (arith, c.value-value.ensures, c.requires)

pub returns : goal.returns
unfolding load_answered
returns c = rw (c.halves.ensures, c.from-number.ensures, c.number.ensures, c.value-value.ensures)
