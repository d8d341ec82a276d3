-- The closed state is the one that `Drive::closed` hands out.
use Rattle.filecalls.proofs.login.closed_reply.Goals as goal

pub returns : goal.returns
returns c = rw c.closed-drive.ensures
