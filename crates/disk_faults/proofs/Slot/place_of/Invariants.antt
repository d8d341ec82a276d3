-- No place passed so far breaks the rule, so what is still to be searched gives the whole.
use Rattle.disk_faults.specs.Faults.{breaks_at}
use Rattle.lists.proofs.BoundedLaws.{Searched}
use Rattle.disk_faults.proofs.Slot.place_of.Given as goal

abbrev pub invariant-loop-p : goal.invariant-loop-p
invariant-loop-p l = Searched (breaks_at l.self.g l.self.volume.now l.self.i l.rule) 0 l.n l.p
