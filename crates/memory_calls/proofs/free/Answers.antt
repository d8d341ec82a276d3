-- M-Ext decides.
use Rattle.memory_calls.specs.Calls.{freeing}
use borrow.Author.Tests.{eq-eqb, ne_eqb}
use Rattle.memory_calls.proofs.free.Goals as goal

pub returns-then-mcb-eq-EVERY : goal.returns-then-mcb-eq-EVERY
unfolding freeing
returns-then-mcb-eq-EVERY c = rw (eq-eqb _ 255 c.if-mcb-eq-EVERY.true, c.done.ensures, c.with_places-table.ensures, c.empty.ensures)

pub returns : goal.returns
unfolding freeing
returns c = rw (ne_eqb _ 255 c.if-mcb-eq-EVERY.false) c.free_part.ensures
