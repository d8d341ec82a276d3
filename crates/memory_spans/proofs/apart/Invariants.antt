-- What is still to be compared from place i on gives the whole.
use Rattle.memory_spans.proofs.RulesLaws.{Parted}
use Rattle.memory_spans.proofs.apart.Given as goal

abbrev pub invariant-loop-i : goal.invariant-loop-i
invariant-loop-i l = Parted l.list l.i
