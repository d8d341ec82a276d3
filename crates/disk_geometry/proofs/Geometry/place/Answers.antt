-- The place is the definition's own, its quotient by R a shift, and the places of an entry hold all records of its extents.
use mathlib.Core.Path.{refl}
use native.Mathlib.Omega.{arith}
use Rattle.disk_geometry.specs.Geometry.{place_of}
use Rattle.disk_geometry.proofs.GeometryLaws.{bounds, place_lt}
use Rattle.disk_geometry.proofs.ShiftLaws.{block_shift}
use Rattle.disk_geometry.proofs.Geometry.place.Goals as goal

pub nonzero_rem-result : goal.nonzero_rem-result
nonzero_rem-result c = omega (arith, bounds _ c.requires)

pub returns : goal.returns
unfolding place_of
returns c =
    let a = c.args in
    let good = c.requires in
    rw (c.extents.ensures, c.bsh.ensures.0, (block_shift a.self good).quotient) (refl, place_lt _ good a.n)
