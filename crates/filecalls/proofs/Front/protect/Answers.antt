-- Closed, or protected from now on.
use Rattle.filecalls.specs.Small.{protect_act, protect_tests}
use Rattle.disk_stores.specs.Stores.{laid}
use Rattle.filecalls.specs.Outcome.{outcome, unless, changed_state}
use Rattle.filecalls.proofs.JoinLaws.{reply_left}
use Rattle.call_answers.specs.Refusal.{first_met}
use Prim.Native.Nat.{ℕ}
use mathlib.Core.List.{List}
use Rattle.filecalls.proofs.Front.protect.Goals as goal

pub returns-then-not-is_open : goal.returns-then-not-is_open
unfolding outcome protect_act protect_tests unless first_met
returns-then-not-is_open c = λ (held : List ℕ). reply_left (c.refused.ensures held) (rw (← c.is_open.ensures held, c.if-not-is_open.true))

pub returns : goal.returns
unfolding outcome protect_act protect_tests unless first_met changed_state laid
returns c = λ (held : List ℕ). reply_left (c.done.ensures held) (rw (← c.is_open.ensures held, c.if-not-is_open.false))
