-- The bytes are laid, the entry grows, the stores are made, and a block that is newly taken is held.
use native.Mathlib.Omega.{arith}
use Rattle.disk_geometry.proofs.GeometryLaws.{bounds}
use Rattle.call_write.proofs.write.write_decided.Goals as goal

pub hold_if-requires : goal.hold_if-requires
hold_if-requires c =
    omega (arith, c.requires.entry.1.1, (bounds c.args.g c.requires.volume.0.0).blocks_high, c.requires.volume.1)
