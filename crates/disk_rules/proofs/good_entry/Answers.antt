-- Fields, name and top bits: the definition's three tests in its order.
use mathlib.Core.Bool.{false≢true}
use mathlib.Core.Path.{sym, ◌∙◌}
use Rattle.lists.specs.Bytes.{part}
use Rattle.disk_volume.specs.Name.{name_at}
use Rattle.disk_rules.proofs.good_entry.Goals as goal
use Rattle.disk_rules.proofs.good_entry.Goals.{then-good_fields, else-good_fields}

pub returns-then-good_name : goal.returns-then-good_name
unfolding name_at part
returns-then-good_name c = elim c.if-good_fields.branch [
  | then-good_fields w ↦ rw (← c.good_fields.ensures, w.if-good_fields.true, ← w.good_name.ensures, ← w.value-is, c.if-good_name.true) c.good_top_bits.ensures
  | else-good_fields w ↦ absurd (false≢true (sym w.if-good_fields.false ∙ sym w.value-is ∙ c.if-good_name.true))
]

pub returns-else-good_name : goal.returns-else-good_name
unfolding name_at part
returns-else-good_name c = elim c.if-good_fields.branch [
  | then-good_fields w ↦ rw (← c.good_fields.ensures, w.if-good_fields.true, ← w.good_name.ensures, ← w.value-is, c.if-good_name.false)
  | else-good_fields w ↦ rw (w.value-is, ← c.good_fields.ensures, w.if-good_fields.false)
]
