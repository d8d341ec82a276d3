-- 64 bytes take the shelf that has the volume; any other number of bytes is refused.
use Rattle.disk_geometry.specs.Geometry.{geometry_of, with_placing}
use Rattle.seam_shelf.proofs.ShelfLaws.{shelf_refused, shelf_done}
use Rattle.seam_shelf.proofs.put_volume.Goals as goal

pub returns-then-shelf-ne-SHELF_BYTES : goal.returns-then-shelf-ne-SHELF_BYTES
returns-then-shelf-ne-SHELF_BYTES c =
    let a = c.args in
    shelf_refused (with_placing (geometry_of a.block_bytes a.blocks a.directory_blocks) a.placing) a.volume.now a.shelf.now c.if-shelf-ne-SHELF_BYTES.true c.seal_shelved.ensures

pub returns : goal.returns
returns c =
    let a = c.args in
    rw (← c.geometry-g.ensures)
    (shelf_done _ a.volume.now a.shelf.now c.if-shelf-ne-SHELF_BYTES.false c.decode.ensures c.put-added.ensures c.lay_shelved.ensures c.seal_shelved-2.ensures)
