-- Pieces, regions and their numbers, each at its place.
use Rattle.memory_bytes.specs.TableBytes.{table_of}
use Rattle.memory_bytes.proofs.table_of.Goals as goal

pub returns : goal.returns
unfolding table_of
returns c = rw (c.spans_at-pieces.ensures, c.spans_at-regions.ensures, c.used_in.ensures, c.from.ensures, c.byte_at.ensures)
