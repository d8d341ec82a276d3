-- The number at byte 0, or one more than there are places.
use mathlib.Core.Path.{◌∙◌}
use Rattle.memory_bytes.specs.TableBytes.{used_in}
use borrow.Author.Tests.{eq-eqb, ne_eqb}
use Rattle.memory_bytes.proofs.used_in.Goals as goal

pub returns-then-b-ne-TABLE_BYTES : goal.returns-then-b-ne-TABLE_BYTES
unfolding used_in
returns-then-b-ne-TABLE_BYTES c = rw (ne_eqb _ _ c.if-b-ne-TABLE_BYTES.true)

pub returns : goal.returns
unfolding used_in
returns c = rw (eq-eqb _ _ c.if-b-ne-TABLE_BYTES.false) (c.from.ensures ∙ c.byte_at.ensures)
