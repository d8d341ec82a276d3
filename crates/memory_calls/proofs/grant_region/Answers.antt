-- The region places with one more, in the table.
use Rattle.memory_calls.proofs.grant_region.Goals as goal

pub returns : goal.returns
returns c = rw (c.done.ensures, c.with_places-table.ensures, c.add-next.ensures, c.regions.ensures)
