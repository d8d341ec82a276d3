-- No place passed so far has the block, so what is still to be asked gives the whole.
use lib.Dec.{eqb}
use Rattle.lists.proofs.AnyLaws.{AnySoFar}
use Rattle.disk_volume.specs.Entry.{block_in}
use Rattle.disk_faults.proofs.in_places.Given as goal

abbrev pub invariant-loop-p : goal.invariant-loop-p
invariant-loop-p l = AnySoFar (λ q. eqb (block_in l.g l.e q) l.b) l.k l.p
