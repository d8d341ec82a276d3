-- The search is the definition's, with the group of s2 and ex.
use Rattle.lists.specs.Bytes.{part}
use Rattle.disk_volume.specs.Name.{name_at}
use Rattle.call_open.specs.Open.{close_slot}
use Rattle.call_open.proofs.slot_to_close.Goals as goal

pub returns : goal.returns
unfolding close_slot name_at part
returns c = (rw (c.group-k.ensures, c.extent_of.ensures.0) at c.find.ensures.0, c.find.ensures.1)
