-- What is still to be compared from place i on gives the whole.
use Rattle.memory_spans.proofs.RulesLaws.{parted_start, parted_next, parted_not, parted_all}
use native.Mathlib.Omega.{arith}
use mathlib.Core.Path.{sym, ◌∙◌}
use Rattle.memory_spans.proofs.apart.Goals as goal

pub loop-i-init : goal.loop-i-init
loop-i-init c = parted_start

pub returns-then-overlaps_from : goal.returns-then-overlaps_from
returns-then-overlaps_from c = sym (parted_not c.loop-i.invariant (omega arith) (sym c.overlaps_from.ensures ∙ c.if-overlaps_from.true))

pub loop-i-preserved : goal.loop-i-preserved
loop-i-preserved c = parted_next c.loop-i.invariant (omega arith) (sym c.overlaps_from.ensures ∙ c.if-overlaps_from.false)

pub returns : goal.returns
returns c = sym (parted_all c.loop-i.invariant (omega arith))
