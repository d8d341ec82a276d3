-- The blocks of the places passed so far are moved.
use Rattle.fresh_laying.proofs.MoveLaws.{MovedTo}
use Rattle.fresh_laying.proofs.move_blocks.Given as goal

abbrev pub invariant-loop-p : goal.invariant-loop-p
invariant-loop-p l = MovedTo l.g l.first l.e l.b l.initial.second l.initial.new l.second l.new l.next l.p
