-- What is still to be laid gives the whole.
use Rattle.lists.proofs.FoldLaws.{folded_start, folded_next, folded_end}
use Rattle.loading.proofs.LaidLaws.{start_in}
use Rattle.loading.specs.Laid.{group_laid}
use native.Mathlib.Omega.{arith}
use lib.ListN.{length}
use mathlib.Core.Path.{sym}
use borrow.Author.Rules.{rules}
use Rattle.loading.proofs.lay.lay_groups.Goals as goal

pub loop-i-init : goal.loop-i-init
loop-i-init c = folded_start

pub lay_group-requires : goal.lay_group-requires
lay_group-requires c =
    let l = c.loop-i in
    let a = c.args in
    let s = start_in a.h.now l.i (length a.granted.now) (omega arith) in
    let f = c.requires.held.0.inside l.i (omega arith) in
    record {
      fcb_len = (search rules, search rules);
      i_in_bounds = (omega (arith, f), omega (arith, s));
    }

pub loop-i-preserved : goal.loop-i-preserved
unfolding group_laid
loop-i-preserved c = folded_next c.loop-i.invariant (omega arith) c.lay_group.ensures

pub returns : goal.returns
returns c = sym (folded_end c.loop-i.invariant (omega arith))
