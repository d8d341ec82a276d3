-- What was granted so far, and what is still to be granted, give the whole.
use Rattle.load_grants.proofs.GrantsLaws.{Granting}
use Rattle.load_grants.proofs.grant_all.Given as goal

abbrev pub invariant-loop-i : goal.invariant-loop-i
invariant-loop-i l = Granting l.h l.pieces l.regions l.k l.granted l.i
