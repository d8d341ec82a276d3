-- An empty slot has no block; any other has what its map has.
use Rattle.disk_rules.specs.GoodSlot.{names_block}
use borrow.Author.Tests.{eq-eqb, ne_eqb}
use Rattle.disk_faults.proofs.names_block.Goals as goal

pub returns-then-e : goal.returns-then-e
unfolding names_block
returns-then-e c = rw (eq-eqb _ 229 c.if-e.true)

pub returns : goal.returns
unfolding names_block
returns c = rw (ne_eqb _ 229 c.if-e.false, ← c.places.ensures.0) c.in_places.ensures
