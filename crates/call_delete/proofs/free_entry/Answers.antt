-- The places passed are freed, so what is still to be freed gives the whole.
use mathlib.Core.Path.{sym}
use borrow.Author.Rules.{rules}
use Rattle.lists.proofs.FoldLaws.{folded_start, folded_next, folded_end}
use Rattle.call_delete.specs.Delete.{free_entry}
use Rattle.call_delete.proofs.free_entry.Goals as goal

pub loop-p-init : goal.loop-p-init
loop-p-init c = folded_start

pub loop-p-preserved : goal.loop-p-preserved
loop-p-preserved c = folded_next c.loop-p.invariant (search rules) c.free_place.ensures

pub returns : goal.returns
unfolding free_entry
returns c = sym (folded_end c.loop-p.invariant (search rules))
