-- The slots passed so far are in order.
use Rattle.fresh_sorting.specs.CodeKept.{InOrder}
use Rattle.fresh_sorting.proofs.order_of.Given as goal

abbrev pub invariant-loop-i : goal.invariant-loop-i
invariant-loop-i l = InOrder l.g l.volume l.i l.kept l.m
