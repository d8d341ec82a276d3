-- A drive's bytes are enough for its front.
use native.Mathlib.Omega.{arith}
use Rattle.drive_bytes.proofs.LoadLaws.{drive_enough}
use Rattle.drive_bytes.proofs.fields.Goals as goal

pub front-requires : goal.front-requires
front-requires c = omega (arith, drive_enough _ c.requires)
