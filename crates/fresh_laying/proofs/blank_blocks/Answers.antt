-- The blocks passed so far are blank, so what is still to be laid gives the whole.
use mathlib.Core.Path.{sym}
use Rattle.fresh_laying.proofs.FoldFrom.{from_next, from_end}
use Rattle.fresh_laying.proofs.blank_blocks.Goals as goal

pub loop-i-preserved : goal.loop-i-preserved
loop-i-preserved c =
    let l = c.loop-i in
    let o = c.blank_block in
    from_next l.invariant c.loop-i-test.true o.ensures

pub returns : goal.returns
returns c = sym (from_end c.loop-i.invariant c.loop-i-test.false)
