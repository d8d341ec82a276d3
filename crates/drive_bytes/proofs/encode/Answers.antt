-- Bytes of the state's length are filled, any other number of them becomes zeros.
use mathlib.Core.Path.{◌∙◌}
use borrow.Author.Tests.{eq-eqb, ne_eqb}
use lib.ListN.{length}
use Rattle.disk_geometry.specs.Geometry.{blocks}
use Rattle.drive_bytes.specs.Layout.{drive_bytes, encoded_in}
use Rattle.drive_bytes.proofs.encode.Goals as goal

pub returns-then-out-length_for : goal.returns-then-out-length_for
unfolding encoded_in
returns-then-out-length_for c =
    let a = c.args in
    rw (ne_eqb (length a.out.now) (drive_bytes (blocks a.d.geometry)) (rw c.length_for.ensures at c.if-out-length_for.true))
    (c.fill.ensures.after (λ y h. h))

pub returns : goal.returns
unfolding encoded_in
returns c =
    let a = c.args in
    rw (eq-eqb (length a.out.now) (drive_bytes (blocks a.d.geometry)) (c.if-out-length_for.false ∙ c.length_for.ensures))
    c.put_drive.ensures
