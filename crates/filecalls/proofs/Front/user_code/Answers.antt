-- Closed; a code from 16 to 254; 255; a code that is set.
use Rattle.filecalls.specs.Small.{user_act, user_tests}
use Rattle.disk_stores.specs.Stores.{laid}
use Rattle.filecalls.specs.Outcome.{outcome, unless, changed_state}
use Rattle.filecalls.proofs.JoinLaws.{reply_left}
use Rattle.call_answers.specs.Refusal.{first_met}
use borrow.Author.Tests.{eq-eqb, ne_eqb}
use Prim.Native.Nat.{ℕ}
use mathlib.Core.List.{List}
use Rattle.filecalls.proofs.Front.user_code.Goals as goal

pub returns-then-not-is_open : goal.returns-then-not-is_open
unfolding outcome user_act user_tests unless first_met
returns-then-not-is_open c = λ (held : List ℕ). reply_left (c.refused.ensures held) (rw (← c.is_open.ensures held, c.if-not-is_open.true))

pub returns-then-code : goal.returns-then-code
unfolding outcome user_act user_tests unless first_met
returns-then-code c = λ (held : List ℕ). reply_left (c.refused-then-code.ensures held) (rw (← c.is_open.ensures held, c.if-not-is_open.false, c.if-code.true))

pub returns-then-code-eq255 : goal.returns-then-code-eq255
unfolding outcome user_act user_tests unless first_met changed_state laid
returns-then-code-eq255 c = λ (held : List ℕ). reply_left (c.done.ensures held) (rw (← c.is_open.ensures held, c.if-not-is_open.false, c.if-code.false, eq-eqb _ _ c.if-code-eq255.true))

pub returns : goal.returns
unfolding outcome user_act user_tests unless first_met changed_state laid
returns c = λ (held : List ℕ). reply_left (c.done-2.ensures held) (rw (← c.is_open.ensures held, c.if-not-is_open.false, c.if-code.false, ne_eqb _ _ c.if-code-eq255.false))
