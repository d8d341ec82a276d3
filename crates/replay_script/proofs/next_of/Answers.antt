-- The flag is the definition's test, and what was read is the call's head.
use native.Mathlib.Omega.{arith}
use borrow.Author.Tests.{leb-true, eqb-false}
use Rattle.lists.proofs.BoolLaws.{and_left}
use Rattle.replay_script.proofs.ScriptLaws.{next_bad, next_call}
use Rattle.replay_script.specs.Script.{next_of}
use mathlib.Core.Path.{sym, ap, ◌∙◌}
use mathlib.Core.Bool.{not}
use Rattle.replay_script.proofs.next_of.Goals as goal

pub returns-then-is_empty : goal.returns-then-is_empty
unfolding next_of
returns-then-is_empty c =
    record {
      value = rw (← c.is_empty.ensures, c.if-is_empty.true);
      within = tt;
    }

pub returns-then-not-good : goal.returns-then-not-good
returns-then-not-good c =
    record {
      value = next_bad c.args.s.now c.byte_at-function.ensures (c.from-fcb.ensures ∙ c.byte_at.ensures) c.two_at-buffer.ensures.0 c.is_known.ensures (eqb-false _ _ (sym c.is_empty.ensures ∙ c.if-is_empty.false)) (ap not c.if-not-good.true);
      within = tt;
    }

pub returns : goal.returns
returns c =
    record {
      value = next_call c.args.s.now c.byte_at-function.ensures (c.from-fcb.ensures ∙ c.byte_at.ensures) c.two_at-buffer.ensures.0 c.is_known.ensures (eqb-false _ _ (sym c.is_empty.ensures ∙ c.if-is_empty.false)) c.byte_at-parameter.result c.byte_at-parameter.ensures (ap not c.if-not-good.false);
      within = (omega (arith, c.from-fcb.ensures), (omega (arith, c.two_at-buffer.ensures.1), leb-true _ _ (and_left _ _ (c.if-not-good.false))));
    }
