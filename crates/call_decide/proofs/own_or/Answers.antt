-- The group's own slot is below the number of slots exactly when the group has an entry.
use mathlib.Core.Path.{◌∙◌}
use native.Mathlib.Omega.{arith}
use borrow.Author.Tests.{lt-ltb, le-ltb}
use Rattle.disk_geometry.specs.Geometry.{slots}
use Rattle.call_decide.specs.CodePlan.{own_or}
use Rattle.call_decide.proofs.own_or.Goals as goal

pub returns-then-own-slots : goal.returns-then-own-slots
unfolding own_or
returns-then-own-slots c =
    let a = c.args in
    let h = c.slots.ensures.0 in
    (rw (lt-ltb a.own (slots a.g) (omega (arith, h))), omega (arith, h))

pub returns : goal.returns
unfolding own_or
returns c =
    let a = c.args in
    (c.find.ensures.0 ∙ rw (le-ltb a.own (slots a.g) (omega (arith, c.slots.ensures.0))), c.find.ensures.1)
