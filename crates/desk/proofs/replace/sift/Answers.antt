-- The records passed so far can be read and are marked as they match.
use Rattle.std.proofs.Common.{rules, arith, List, ℕ, refl, sym, ap, ◌∙◌}
use mathlib.Core.Bool.{false≢true}
use Rattle.lists.proofs.BoundedLaws.{passed_next, passed_fails, passed_all}
use Rattle.call_answers.specs.Refusal.{is_none}
use Rattle.desk.proofs.LoopLaws.{marks_next, every_one}
use Rattle.desk.proofs.replace.sift.Goals as goal

pub returns-then-not-is_none : goal.returns-then-not-is_none
returns-then-not-is_none c = λ (held : List ℕ).
    let unread = ap is_none (sym (c.show.ensures held).0) ∙ sym c.is_none.ensures ∙ c.if-not-is_none.true in
    record { all_read = sym (passed_fails (c.loop-n.invariant held).0 c.loop-n-test.true unread) ∙ every_one _ _; right = λ e. absurd (false≢true e) }

pub loop-n-preserved : goal.loop-n-preserved
loop-n-preserved c = λ (held : List ℕ).
    let read = ap is_none (sym (c.show.ensures held).0) ∙ sym c.is_none.ensures ∙ c.if-not-is_none.false in (
      passed_next (c.loop-n.invariant held).0 c.loop-n-test.true read,
      marks_next _ _ _ _ (c.loop-n.invariant held).1 (search rules) refl (rw (c.two_at.ensures.0, c.from.ensures, (c.show.ensures held).1)),
    )

pub returns : goal.returns
returns c = λ (held : List ℕ).
    let past = c.loop-n-test.false in
    record {
      all_read = sym (passed_all (c.loop-n.invariant held).0 past) ∙ every_one _ _;
      right = λ e m a b. (c.loop-n.invariant held).1.right m a (omega (arith, b, past));
    }
