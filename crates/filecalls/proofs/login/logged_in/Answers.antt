-- The closed state, with its geometry and words replaced, is the state after log-in.
use Rattle.filecalls.proofs.login.logged_in.Goals as goal

pub returns : goal.returns
returns c = rw c.closed-drive.ensures
