-- The head's numbers are small enough to be added.
use native.Mathlib.Omega.{arith}
use Rattle.replay_turn.proofs.call_next.Goals as goal

pub overflow_add-result-2 : goal.overflow_add-result-2
overflow_add-result-2 c = omega (arith, c.requires)
