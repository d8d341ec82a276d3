-- A lawful volume has at most 8 MiB.
use native.Mathlib.Omega.{arith}
use Rattle.disk_geometry.proofs.GeometryLaws.{bounds}
use Rattle.disk_geometry.proofs.Geometry.bytes.Goals as goal

pub overflow_mul-result : goal.overflow_mul-result
overflow_mul-result c = omega (arith, bounds _ c.requires)
