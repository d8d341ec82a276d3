-- The two tests are asked one after the other, and a block from D to T-1 has a bit.
use mathlib.Core.Bool.{not}
use mathlib.Core.Path.{refl, sym, ◌∙◌, ap}
use Prim.Native.Nat.{◌<◌}
use native.Mathlib.Omega.{arith}
use borrow.Author.Tests.{not-true, not-false}
use Rattle.disk_held.specs.Held.{room}
use Rattle.disk_geometry.proofs.GeometryLaws.{bounds}
use Rattle.disk_geometry.proofs.InsideLaws.{inside_low}
use Rattle.disk_maps.proofs.take_block.Goals as goal

pub returns-then-not-is_inside : goal.returns-then-not-is_inside
returns-then-not-is_inside c =
    record {
      value = rw (← c.is_inside.ensures, not-true c.is_inside.result (ap not c.if-not-is_inside.true));
      held_after = refl;
    }

pub is_held-requires : goal.is_held-requires
is_held-requires c =
    let low : (let a = c.args in a.b < room a.held.now) = omega (arith, inside_low c.args.g c.requires.0 c.args.b (sym c.is_inside.ensures ∙ not-false c.is_inside.result (ap not c.if-not-is_inside.false))) in
    omega (arith, low, bounds _ c.requires.0)

pub returns-then-is_held : goal.returns-then-is_held
returns-then-is_held c =
    record {
      value = rw (← c.is_inside.ensures, not-false c.is_inside.result (ap not c.if-not-is_inside.false), ← c.is_held.ensures, c.if-is_held.true);
      held_after = refl;
    }

pub hold-requires : goal.hold-requires
hold-requires c =
    let low : (let a = c.args in a.b < room a.held.now) = omega (arith, inside_low c.args.g c.requires.0 c.args.b (sym c.is_inside.ensures ∙ not-false c.is_inside.result (ap not c.if-not-is_inside.false))) in
    omega (arith, low, bounds _ c.requires.0)

pub returns : goal.returns
returns c =
    record {
      value = rw (← c.is_inside.ensures, not-false c.is_inside.result (ap not c.if-not-is_inside.false), ← c.is_held.ensures, c.if-is_held.false);
      held_after = c.hold.ensures;
    }
