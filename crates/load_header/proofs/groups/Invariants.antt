-- No form passed so far is 0, so what is still to be searched gives the whole.
use Rattle.load_header.specs.Header.{descriptors, form_at}
use Rattle.lists.proofs.BoundedLaws.{Searched}
use lib.Dec.{eqb}
use Rattle.load_header.proofs.groups.Given as goal

abbrev pub invariant-loop-i : goal.invariant-loop-i
invariant-loop-i l = Searched (λ j. eqb (form_at l.h j) 0) 0 descriptors l.i
