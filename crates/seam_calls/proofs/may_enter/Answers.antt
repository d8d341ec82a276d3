-- The seam asks where the call does not.
use Rattle.seam_calls.proofs.may_enter.Goals as goal

pub returns-then-asks_open : goal.returns-then-asks_open
returns-then-asks_open c held = rw (← c.asks_open.ensures, c.if-asks_open.true)

pub returns : goal.returns
returns c held = rw (← c.asks_open.ensures, c.if-asks_open.false) (c.is_open.ensures held)
