-- What is left behind a start, or before an end.
use Rattle.memory_regions.proofs.FreeLaws.{part_shorter, rest_named}
use Rattle.memory_regions.specs.Freeing.{left}
use borrow.Author.Tests.{eq-eqb, ne_eqb}
use native.Mathlib.Omega.{arith}
use Rattle.memory_regions.proofs.rest.Goals as goal

pub overflow_sub-length : goal.overflow_sub-length
overflow_sub-length c = let a = c.args in part_shorter a.part a.region c.requires.0

pub overflow_cast-result : goal.overflow_cast-result
overflow_cast-result c = let a = c.args in omega (arith, c.end_of-to.ensures.0, rest_named a.part a.region c.requires.0 c.requires.1.0 c.if-part-region.true c.requires.1.1)

pub returns-then-part-region : goal.returns-then-part-region
unfolding left
returns-then-part-region c = let a = c.args in rw (ne_eqb a.part.length a.region.length c.requires.1.0, eq-eqb a.part.start a.region.start c.if-part-region.true, c.end_of-to.ensures.0)

pub returns-else-part-region : goal.returns-else-part-region
unfolding left
returns-else-part-region c = let a = c.args in rw (ne_eqb a.part.length a.region.length c.requires.1.0, ne_eqb a.part.start a.region.start c.if-part-region.false)
