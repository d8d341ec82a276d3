-- Each group passed so far is good, so what is still to be asked gives the whole.
use Rattle.load_header.specs.Header.{good_group}
use Rattle.lists.proofs.BoundedLaws.{Passed}
use Rattle.load_header.proofs.are_good.Given as goal

abbrev pub invariant-loop-i : goal.invariant-loop-i
invariant-loop-i l = Passed (good_group l.h) 0 l.n l.i
