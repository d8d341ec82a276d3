-- Each arm is the way of its call.
use Rattle.bdos.proofs.way_of.Goals as goal

pub returns-in-Moves : goal.returns-in-Moves
returns-in-Moves c = rw c.in-Moves.is c.way_moved.ensures
