-- No group passed so far has the type, so what is still to be searched gives the whole.
use Rattle.load_header.specs.Header.{type_at}
use Rattle.lists.proofs.BoundedLaws.{Searched}
use lib.Dec.{eqb}
use Rattle.load_header.proofs.place_of.Given as goal

abbrev pub invariant-loop-i : goal.invariant-loop-i
invariant-loop-i l = Searched (λ j. eqb (type_at l.h j) l.kind) 0 l.n l.i
