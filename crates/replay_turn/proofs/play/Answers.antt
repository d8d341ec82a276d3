-- Number 0 lays bytes, and every other number is done by the door.
use Rattle.replay_turn.specs.Play.{played}
use borrow.Author.Tests.{eq-eqb, ne_eqb}
use Rattle.replay_turn.proofs.play.Goals as goal

pub returns-then-function-eq-TOUCH : goal.returns-then-function-eq-TOUCH
unfolding played
returns-then-function-eq-TOUCH c = rw (eq-eqb _ _ c.if-function-eq-TOUCH.true, c.lay.ensures)

pub returns : goal.returns
unfolding played
returns c = rw (ne_eqb _ _ c.if-function-eq-TOUCH.false) c.enter.ensures
