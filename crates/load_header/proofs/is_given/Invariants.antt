-- No group passed so far has the type, so what is still to be asked gives the whole.
use Rattle.load_header.specs.Header.{type_at}
use Rattle.lists.proofs.AnyLaws.{AnySoFar}
use lib.Dec.{eqb}
use Rattle.load_header.proofs.is_given.Given as goal

abbrev pub invariant-loop-j : goal.invariant-loop-j
invariant-loop-j l = AnySoFar (λ k. eqb (type_at l.h k) l.kind) l.i l.j
