-- A number below T fits two bytes, and they are its remainder and its quotient.
use Rattle.std.proofs.Common.{◌≡◌, ◌/◌, ◌%◌, sym, arith}
use lib.ListN.{length-set}
use Rattle.disk_geometry.specs.Geometry.{number_bytes}
use Rattle.disk_geometry.proofs.GeometryLaws.{bounds}
use Rattle.disk_volume.proofs.MapLaws.{place_in, with_two}
use Rattle.disk_volume.proofs.entry.with_block.Goals as goal

pub overflow_cast-b : goal.overflow_cast-b
overflow_cast-b c = omega (arith, (bounds c.args.g c.requires.0).blocks_high, c.requires)

pub bounds-e-at-3 : goal.bounds-e-at-3
bounds-e-at-3 c =
    let a = c.args in
    let n = c.number_bytes-n in
    let inside = rw (← n.ensures.0) at (place_in a.g a.p c.requires.1.0) in
    rw length-set (omega (arith, inside, c.if-n-eq1.false))

pub returns : goal.returns
returns c =
    let a = c.args in
    let n = c.number_bytes-n in
    let two : number_bytes a.g ≡ 2 = omega (arith, n.ensures, c.if-n-eq1.false) in
    let high : a.b / 256 % 256 ≡ a.b / 256 = omega (arith, (bounds a.g c.requires.0).blocks_high, c.requires) in
    rw (c.to_le_bytes.ensures, n.ensures.0, high) (sym (with_two a.g a.e.now a.p two a.b))
