-- The search is the definition's, with the group of ex.
use Rattle.lists.specs.Bytes.{part}
use Rattle.disk_volume.specs.Name.{name_at}
use Rattle.call_open.specs.Open.{open_slot}
use Rattle.call_open.proofs.slot_to_open.Goals as goal

pub returns : goal.returns
unfolding open_slot name_at part
returns c = (rw (c.group-k.ensures, c.from.ensures) at c.find.ensures.0, c.find.ensures.1)
