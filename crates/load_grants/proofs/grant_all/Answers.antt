-- What was granted so far, and what is still to be granted, give the whole.
use Rattle.load_grants.proofs.GrantsLaws.{room_for_one, granting_start, granting_next, granting_stop, granting_end}
use native.Mathlib.Omega.{arith}
use mathlib.Core.Path.{sym, ◌∙◌}
use Rattle.load_grants.proofs.grant_all.Goals as goal

pub loop-i-init : goal.loop-i-init
loop-i-init c = granting_start _ _ _ _ c.of-granted.ensures

pub returns-in_default : goal.returns-in_default
returns-in_default c = granting_stop c.loop-i.invariant (omega arith) c.requires.1 c.used.ensures (sym c.grant_one.ensures ∙ c.in_default.is)

pub add-granted-requires : goal.add-granted-requires
add-granted-requires c = room_for_one c.loop-i.invariant (omega arith) c.requires.1 c.used-in-loop-i.ensures

pub loop-i-preserved : goal.loop-i-preserved
loop-i-preserved c = granting_next c.loop-i.invariant (omega arith) c.requires.1 c.used.ensures c.used-in-loop-i.ensures (sym c.grant_one.ensures ∙ c.in-Some.is) c.add-granted.ensures

pub returns : goal.returns
returns c = granting_end c.loop-i.invariant (omega arith)
