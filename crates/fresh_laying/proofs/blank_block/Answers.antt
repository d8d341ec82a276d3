-- The records passed so far are blank, so what is still to be laid gives the whole.
use mathlib.Core.Path.{sym}
use native.Mathlib.Omega.{arith}
use Rattle.lists.proofs.FoldLaws.{folded_next, folded_end}
use Rattle.fresh_volume.specs.Copy.{put_block}
use Rattle.fresh_laying.proofs.blank_block.Goals as goal

pub loop-k-preserved : goal.loop-k-preserved
loop-k-preserved c =
    let l = c.loop-k in
    let o = c.lay_record in
    folded_next l.invariant (omega (arith, c.loop-k-test.true, c.records-k-end.ensures)) o.ensures

pub returns : goal.returns
unfolding put_block
returns c = sym (folded_end c.loop-k.invariant (omega (arith, c.loop-k-test.false, c.records-k-end.ensures)))
