-- Each piece passed is changed, so what is still to be changed gives the whole.
use Rattle.lists.proofs.FoldLaws.{Folded}
use Rattle.disk_stores.specs.Pieces.{map_piece}
use Rattle.call_sweep.specs.CodeEdit.{lent_change}
use Rattle.call_sweep.proofs.change_four.Given as goal

abbrev pub invariant-loop-k : goal.invariant-loop-k
invariant-loop-k l = Folded (map_piece (lent_change l.g l.edit l.user l.name l.new)) l.initial.sector 4 l.sector l.k
