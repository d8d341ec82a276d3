-- A figure from each place.
use Rattle.shelf_bytes.specs.Layout.{decoded}
use Rattle.shelf_bytes.proofs.decode.Goals as goal

pub returns : goal.returns
unfolding decoded
returns c = rw (c.figure_at.ensures, c.figure_at-2.ensures, c.figure_at-3.ensures, c.figure_at-4.ensures, c.figure_at-5.ensures, c.figure_at-6.ensures, c.figure_at-7.ensures, c.figure_at-8.ensures)
