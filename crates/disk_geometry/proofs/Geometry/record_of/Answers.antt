-- The block shifted and the record masked are the product by R and the remainder, and record n in block b is a logical
-- record of the volume.
use mathlib.Core.Path.{◌≡◌}
use Prim.Native.Nat.{◌+◌, ◌*◌, ◌%◌, ◌^◌, ◌<◌}
use native.Mathlib.Omega.{arith}
use lib.Bits.{bit_and}
use Rattle.disk_geometry.specs.Geometry.{records}
use Rattle.disk_geometry.proofs.GeometryLaws.{bounds, record_below}
use Rattle.disk_geometry.proofs.ShiftLaws.{block_shift}
use Rattle.disk_geometry.proofs.Geometry.record_of.Goals as goal

inside : (c : goal.After-blm) → c.args.b * records c.args.self + c.args.n % records c.args.self < c.args.self.blocks * records c.args.self
inside c =
    let a = c.args in
    let p = c.requires in
    record_below _ p.0 a.b a.n p.1

same_record : (c : goal.After-blm)
    → (c.args.b * 2 ^ c.bsh.result) % 2 ^ 64 + bit_and c.args.n c.blm.result
    ≡ c.args.b * records c.args.self + c.args.n % records c.args.self
same_record c =
    let a = c.args in
    let good = c.requires.0 in
    let s = block_shift a.self good in
    rw (c.bsh.ensures.0, c.blm.ensures, s.product a.b (omega (arith, bounds _ good, inside c)), s.remainder)

pub overflow_add-result : goal.overflow_add-result
overflow_add-result c = rw (same_record c) (omega (arith, bounds _ c.requires.0, inside c))

pub returns : goal.returns
returns c = (same_record c, rw (same_record c) (inside c))
