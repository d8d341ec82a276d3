-- 0, or a number that is served.
use Rattle.replay_script.proofs.is_known.Goals as goal

pub returns : goal.returns
returns c = rw c.is_served.ensures
