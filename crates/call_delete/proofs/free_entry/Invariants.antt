-- The places passed are freed, so what is still to be freed gives the whole.
use Rattle.lists.proofs.FoldLaws.{Folded}
use Rattle.disk_geometry.specs.Geometry.{places}
use Rattle.call_delete.specs.Delete.{free_place}
use Rattle.call_delete.proofs.free_entry.Given as goal

abbrev pub invariant-loop-p : goal.invariant-loop-p
invariant-loop-p l = Folded (free_place l.g l.e) l.initial.held (places l.g) l.held l.p
