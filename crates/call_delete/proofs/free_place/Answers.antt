-- A number from D to T-1 has a bit and is released, any other is passed over.
use mathlib.Core.Bool.{not}
use mathlib.Core.Path.{sym, ◌∙◌, ap}
use native.Mathlib.Omega.{arith}
use borrow.Author.Tests.{not-true, not-false}
use Rattle.disk_geometry.proofs.InsideLaws.{inside_low}
use Rattle.call_delete.specs.Delete.{free_place}
use Rattle.call_delete.proofs.free_place.Goals as goal

pub returns-then-not-is_inside : goal.returns-then-not-is_inside
unfolding free_place
returns-then-not-is_inside c = rw (← c.block_in-b.ensures.0, ← c.is_inside.ensures, not-true c.is_inside.result (ap not c.if-not-is_inside.true))

pub release-requires : goal.release-requires
release-requires c =
    omega (arith, inside_low c.args.g c.requires.g_value.0 c.block_in-b.result (sym c.is_inside.ensures ∙ not-false c.is_inside.result (ap not c.if-not-is_inside.false)), c.requires.g_value.1)

pub returns : goal.returns
unfolding free_place
returns c = rw (← c.block_in-b.ensures.0, ← c.is_inside.ensures, not-false c.is_inside.result (ap not c.if-not-is_inside.false)) c.release.ensures
