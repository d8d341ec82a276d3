-- The quotient is the definition's own; a lawful block has an extent at least, and four at most.
use mathlib.Core.Path.{◌≡◌}
use mathlib.Core.Bool.{true}
use Prim.Native.Nat.{◌%◌}
use native.Mathlib.Nat.{mod-eq_of_lt}
use native.Mathlib.Omega.{arith}
use Rattle.disk_geometry.specs.declared.Geometry.{Geometry}
use Rattle.disk_geometry.specs.Geometry.{lawful, extents, group_of}
use Rattle.disk_geometry.proofs.GeometryLaws.{bounds}
use Rattle.disk_geometry.proofs.Geometry.group.Goals as goal

few : (g : Geometry) → lawful g ≡ true → extents g % 8 ≡ extents g
few g good = mod-eq_of_lt (omega (arith, bounds g good))

pub nonzero_div-result : goal.nonzero_div-result
nonzero_div-result c = rw c.extents.ensures (rw (few _ c.requires) (omega (arith, bounds _ c.requires)))

pub returns : goal.returns
unfolding group_of
returns c = rw (c.extents.ensures, few _ c.requires)
