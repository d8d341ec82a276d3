-- The region is met at start, or ahead of it, or not at all below stop.
use Rattle.memory_spans.proofs.RoomLaws.{Meets, meets_facts, met_where, met_never}
use native.Mathlib.Omega.{arith}
use Rattle.memory_spans.proofs.met.Goals as goal

pub returns-then-from-to : goal.returns-then-from-to
returns-then-from-to c =
    let a = c.args in
    let facts : Meets a.region a.start a.stop = meets_facts a.region a.start a.stop (rw (c.from-from.ensures, c.end_of-to.ensures.0) at c.if-from-to.true) in
    (omega (arith, c.max.ensures, facts.ahead, c.from-from.ensures), (omega (arith, c.max.ensures), rw (c.max.ensures, c.from-from.ensures) (met_where _ _ _ facts)))

pub returns-else-from-to : goal.returns-else-from-to
returns-else-from-to c = let a = c.args in (omega arith, (c.requires, met_never a.region a.start a.stop (rw (c.from-from.ensures, c.end_of-to.ensures.0) at c.if-from-to.false)))
