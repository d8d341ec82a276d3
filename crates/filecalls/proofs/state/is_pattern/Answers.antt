-- Name and ex, as the rule has them.
use Rattle.disk_volume.specs.Name.{name_at}
use Rattle.lists.specs.Bytes.{part}
use Rattle.filecalls.proofs.state.is_pattern.Goals as goal

pub returns : goal.returns
unfolding name_at part
returns c = rw c.good_name.ensures
