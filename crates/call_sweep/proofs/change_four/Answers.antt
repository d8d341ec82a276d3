-- Each piece passed is changed, so what is still to be changed gives the whole.
use mathlib.Core.Path.{sym}
use Rattle.call_sweep.proofs.EditLaws.{lent_piece}
use borrow.Author.Rules.{rules}
use Rattle.lists.proofs.FoldLaws.{folded_start, folded_next, folded_end}
use Rattle.call_sweep.specs.CodeEdit.{lent_change}
use Rattle.call_sweep.proofs.change_four.Goals as goal

pub loop-k-init : goal.loop-k-init
loop-k-init c = folded_start

pub loop-k-preserved : goal.loop-k-preserved
loop-k-preserved c =
    let a = c.args in
    let l = c.loop-k in
    let o = c.change_one in
    let f = lent_change a.g a.edit a.user a.name.now a.new.now in
    folded_next l.invariant (search rules) (lent_piece f l.sector o.new.e l.k o.ensures)

pub returns : goal.returns
returns c = sym (folded_end c.loop-k.invariant (search rules))
