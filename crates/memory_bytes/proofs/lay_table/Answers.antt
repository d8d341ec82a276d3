-- Laid where the test is met.
use Rattle.memory_bytes.proofs.lay_table.Goals as goal

pub put_table-requires : goal.put_table-requires
put_table-requires c = c.requires c.if-done-function.true

pub returns-then-done-function : goal.returns-then-done-function
returns-then-done-function c = rw c.if-done-function.true c.put_table.ensures

pub returns-else-done-function : goal.returns-else-done-function
returns-else-done-function c = rw c.if-done-function.false
