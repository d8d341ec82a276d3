-- Whole extents of the group below the entry's own, and what it counts in that.
use mathlib.Core.Path.{◌≡◌, ◌∙◌}
use Prim.Native.Nat.{◌%◌, ◌<◌, ◌≤◌, min}
use native.Mathlib.Nat.{mod-lt}
use native.Mathlib.Omega.{arith}
use Rattle.lists.specs.Bytes.{byte}
use Rattle.disk_geometry.proofs.GeometryLaws.{bounds}
use Rattle.disk_volume.proofs.EntryLaws.{count_own}
use Rattle.shelf_holdings.proofs.run_of.Goals as goal

pub nonzero_rem-result : goal.nonzero_rem-result
nonzero_rem-result c = omega (arith, c.extents.ensures, (bounds _ c.requires.0).some_extents)

pub returns : goal.returns
returns c =
    let few_below : c.extent_of-x.result % c.extents.result < 4 = (let b = bounds _ c.requires.0 in
    let some : 0 < c.extents.result = omega (arith, c.extents.ensures, b.some_extents) in
    let four : c.extents.result ≤ 4 = omega (arith, c.extents.ensures, b.block_high) in
    omega (arith, mod-lt c.extent_of-x.result some)) in
    let a = c.args in
    let own : c.from.result ≡ min (byte a.e.now 15) 128 = c.from.ensures ∙ c.count_of.ensures.0 ∙ count_own a.e.now c.extent_of-x.result c.extent_of-x.ensures.0 in
    (rw (own, c.extent_of-x.ensures.0, c.extents.ensures), omega (arith, few_below, c.from.ensures, c.count_of.ensures.1))
