-- The slots passed so far are blank, so what is still to be laid gives the whole.
use Rattle.disk_geometry.specs.Geometry.{slots}
use Rattle.fresh_laying.specs.CodeLaying.{blank_slot}
use Rattle.fresh_laying.proofs.FoldFrom.{FoldedFrom}
use Rattle.fresh_laying.proofs.blank_slots.Given as goal

abbrev pub invariant-loop-i : goal.invariant-loop-i
invariant-loop-i l = FoldedFrom (blank_slot l.g) l.initial.second l.k (slots l.g) l.second l.i
