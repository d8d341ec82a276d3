-- What stands next is one of the definition's cases; a call is the one whose head was read.
use Rattle.replay_script.proofs.ScriptLaws.{next_lent_lem}
use Rattle.replay_turn.specs.Play.{after}
use native.Mathlib.Omega.{arith}
use mathlib.Core.Path.{refl, sym, ◌∙◌}
use mathlib.Core.Logic.{inl, inr}
use Rattle.replay_turn.proofs.take_turn.Goals as goal

pub call_next-requires : goal.call_next-requires
call_next-requires c = rw c.in-Call.is at c.next_of-next.ensures.within

pub returns-in-End : goal.returns-in-End
unfolding after
returns-in-End c =
    let value = c.next_of-next.ensures.value in
    rw c.stopped.ensures (elim c.in-End.is [
      | inl h ↦ let e = sym value ∙ h in record { next_value = (value, (rw e, omega arith)); same_buffer = refl; after = rw e }
      | inr h ↦ let e = sym value ∙ h in record { next_value = (value, (rw e, omega arith)); same_buffer = refl; after = rw e }
    ])

pub returns-in-Call : goal.returns-in-Call
unfolding after
returns-in-Call c =
    let e = sym c.next_of-next.ensures.value ∙ c.in-Call.is in
    let w = rw c.in-Call.is at c.next_of-next.ensures.within in
    record {
      next_value = (c.call_next.ensures.next_value.0 ∙ sym e, (rw e c.call_next.ensures.next_value.1, omega (arith, c.call_next.ensures.next_value.1, w.1.1)));
      same_buffer = c.call_next.ensures.same_buffer;
      after = rw (e, next_lent_lem c.args.s.now _ e) c.call_next.ensures.after;
    }
