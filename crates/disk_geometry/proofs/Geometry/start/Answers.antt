-- Record q ends inside the volume, so its start is within the machine's numbers. A volume that is not straight is an eight-inch
-- disk, which has more records than its blocks.
use mathlib.Core.Path.{sym, ◌∙◌}
use native.Mathlib.Omega.{arith}
use Rattle.disk_geometry.proofs.GeometryLaws.{bounds, placed_floppy, start_straight, start_floppy, start_in, floppy_record}
use Rattle.disk_geometry.proofs.Geometry.start.Goals as goal

pub overflow_mul-result : goal.overflow_mul-result
overflow_mul-result c = omega (arith, bounds _ c.requires.0)

pub returns-then-self-eq-STRAIGHT : goal.returns-then-self-eq-STRAIGHT
returns-then-self-eq-STRAIGHT c =
    let a = c.args in
    let p = c.requires in
    let e = start_straight _ p.0 a.q c.if-self-eq-STRAIGHT.true in
    (sym e, rw e at (start_in _ p.0 a.q p.1))

pub image_start-requires : goal.image_start-requires
image_start-requires c =
    let p = c.requires in
    floppy_record _ (placed_floppy _ p.0 c.if-self-eq-STRAIGHT.false) c.args.q p.1

pub returns-else-self-eq-STRAIGHT : goal.returns-else-self-eq-STRAIGHT
returns-else-self-eq-STRAIGHT c =
    let a = c.args in
    let p = c.requires in
    let e = c.image_start.ensures ∙ sym (start_floppy _ p.0 a.q (placed_floppy _ p.0 c.if-self-eq-STRAIGHT.false).placed) in
    (e, rw e (start_in _ p.0 a.q p.1))
