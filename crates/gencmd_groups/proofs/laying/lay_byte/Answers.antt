-- A byte beyond the end changes nothing.
use lib.Seq.{set_out}
use mathlib.Core.Path.{sym}
use Rattle.gencmd_groups.proofs.laying.lay_byte.Goals as goal

pub returns-else-a-part : goal.returns-else-a-part
returns-else-a-part c = let a = c.args in sym (set_out a.part.now a.a a.b c.if-a-part.false)
