-- Above the block in the nearest lower used place where one is free there, and else the lowest: a lawful geometry's D and T
-- are within the bounds of the search.
use mathlib.Core.Path.{◌≡◌, sym, ◌∙◌}
use Prim.Native.Nat.{◌≤◌, ◌<◌}
use native.Mathlib.Omega.{arith}
use Rattle.disk_geometry.proofs.GeometryLaws.{bounds}
use Rattle.call_entry.specs.Alloc.{alloc}
use Rattle.call_entry.proofs.AllocLaws.{lowest}
use Rattle.call_entry.proofs.TogetherLaws.{given_above, none_above, outside_above}
use Rattle.disk_geometry.proofs.InsideLaws.{inside_is}
use Rattle.call_entry.proofs.alloc.Goals as goal
use Rattle.call_entry.proofs.alloc.Goals.{then-is_inside+else-above-g, else-is_inside}

pub overflow_add-near : goal.overflow_add-near
overflow_add-near c =
    let within : (let a = c.args in let b = c.nearest_below-near.result in (a.g.directory_blocks ≤ b) × (b < a.g.blocks)) = inside_is _ _ (sym c.is_inside.ensures ∙ c.if-is_inside.true) in
    omega (arith, within, bounds _ c.requires.g_value.0)

pub lowest_free-above-requires : goal.lowest_free-above-requires
lowest_free-above-requires c =
    let within : (let a = c.args in let b = c.nearest_below-near.result in (a.g.directory_blocks ≤ b) × (b < a.g.blocks)) = inside_is _ _ (sym c.is_inside.ensures ∙ c.if-is_inside.true) in
    omega (arith, within, bounds _ c.requires.g_value.0)

pub returns-then-above-g : goal.returns-then-above-g
returns-then-above-g c =
    let a = c.args in
    let b = c.nearest_below-near in
    let r = c.is_inside.ensures in
    let f = c.lowest_free-above in
    (given_above a.g a.held.now a.e.now a.p b.result b.ensures (sym r ∙ c.if-is_inside.true) f.result f.ensures.0 c.if-above-g.true, f.ensures.1)

pub lowest_free-requires : goal.lowest_free-requires
lowest_free-requires c = omega (arith, bounds _ c.requires.g_value.0)

pub returns : goal.returns
returns c =
    let else_lowest : (let a = c.args in alloc a.g a.held.now a.e.now a.p ≡ lowest a.g a.held.now) = (let a = c.args in
    let b = c.nearest_below-near in
    let r = c.is_inside.ensures in
    elim c.if-is_inside.branch [
      | then-is_inside+else-above-g w ↦
          none_above a.g a.held.now a.e.now a.p b.result b.ensures (sym r ∙ w.if-is_inside.true) w.lowest_free-above.result w.lowest_free-above.ensures.0 w.if-above-g.false
      | else-is_inside w ↦ outside_above a.g a.held.now a.e.now a.p b.result b.ensures (sym r ∙ w.if-is_inside.false)
    ]) in
    (c.lowest_free.ensures.0 ∙ sym else_lowest, c.lowest_free.ensures.1)
