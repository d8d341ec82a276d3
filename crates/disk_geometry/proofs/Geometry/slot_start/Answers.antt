-- A slot of a straight volume is the i-th piece of 32 bytes; any other is one of four pieces of its record.
use mathlib.Core.Path.{sym}
use Rattle.disk_geometry.proofs.GeometryLaws.{slot_straight, slot_in}
use Rattle.disk_geometry.proofs.Geometry.slot_start.Goals as goal

pub returns-then-self-eq-STRAIGHT : goal.returns-then-self-eq-STRAIGHT
returns-then-self-eq-STRAIGHT c =
    let g = c.args.self in
    let z = slot_straight g c.requires.0 c.args.i c.if-self-eq-STRAIGHT.true in
    (sym z, rw (sym z) (slot_in g c.requires.0 c.args.i c.requires.1))
