-- Places above k are filled with what stood one below them, and none of these is below the number.
use Rattle.fresh_order.proofs.EnteredLaws.{Opened}
use Rattle.fresh_sorting.proofs.enter.Given as goal

abbrev pub invariant-loop-k : goal.invariant-loop-k
invariant-loop-k l = Opened l.initial.kept l.m l.key l.kept l.k
