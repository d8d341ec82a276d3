-- The slots passed so far are blank, so what is still to be laid gives the whole.
use mathlib.Core.Path.{sym}
use native.Mathlib.Omega.{arith}
use Rattle.fresh_laying.proofs.FoldFrom.{from_next, from_end}
use Rattle.fresh_laying.proofs.blank_slots.Goals as goal

pub loop-i-preserved : goal.loop-i-preserved
loop-i-preserved c =
    let l = c.loop-i in
    let o = c.lay_slot in
    from_next l.invariant (omega (arith, c.loop-i-test.true, c.slots-i-end.ensures.0)) o.ensures

pub returns : goal.returns
returns c = sym (from_end c.loop-i.invariant (omega (arith, c.loop-i-test.false, c.slots-i-end.ensures.0)))
