-- The five tests in the definition's order.
use mathlib.Core.Path.{refl}
use Rattle.disk_rules.specs.GoodSlot.{good_fields}
use Rattle.disk_rules.proofs.good_fields.Goals as goal

pub returns : goal.returns
unfolding good_fields
returns c = refl
