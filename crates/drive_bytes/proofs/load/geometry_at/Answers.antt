-- Three numbers of two bytes each, and a byte.
use Rattle.drive_bytes.specs.Layout.{fields}
use Rattle.numbers.proofs.NumberLaws.{number_two}
use native.Mathlib.Omega.{arith}
use Rattle.drive_bytes.proofs.load.geometry_at.Goals as goal

pub returns : goal.returns
unfolding fields
returns c =
    let size = c.requires in
    let s = c.args.s.now in
    rw (c.two_at.ensures.0, c.two_at-2.ensures.0, c.two_at-3.ensures.0, c.from.ensures, number_two s 0 (omega (arith, size)), number_two s 2 (omega (arith, size)), number_two s 4 (omega (arith, size)))
