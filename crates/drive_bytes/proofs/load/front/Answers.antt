-- The parts are the definition's fields.
use Rattle.drive_bytes.specs.Layout.{fields}
use Rattle.drive_bytes.proofs.load.front.Goals as goal

pub returns : goal.returns
unfolding fields
returns c = rw (c.geometry_at.ensures, c.search_at.ensures)
