-- Refused as log-in says for the first, then for the second's length; else the fresh disk is laid out.
use mathlib.Core.Path.{◌≡◌, sym, ap, ◌∙◌}
use mathlib.Core.Bool.{true}
use Prim.Native.Nat.{ℕ}
use lib.ListN.{length}
use lib.Dec.{eqb}
use borrow.Author.Tests.{eq-eqb, ne_eqb}
use Rattle.call_answers.specs.Answer.{succeeded}
use Rattle.filecalls.specs.LogIn.{log_in}
use Rattle.filecalls.specs.declared.Reply.{Reply}
use Rattle.filecalls.proofs.ReadyLaws.{Accepted, accepted}
use Rattle.fresh_copy.proofs.CopyLaws.{first_refused, second_refused, copy_done}
use Rattle.fresh_copy.proofs.fresh_copy.Goals as goal

pub returns-then-not-succeeded : goal.returns-then-not-succeeded
returns-then-not-succeeded c =
    let said : (let a = c.args in c.log_in-answer.result.answer ≡ (log_in a.g a.first.now).answer) = ap (λ (r : Reply). r.answer) c.log_in-answer.ensures in
    let a = c.args in first_refused a.g a.first.now a.second.now said (sym c.succeeded.ensures ∙ c.if-not-succeeded.true)

pub bytes-requires : goal.bytes-requires
bytes-requires c =
    let said : (let a = c.args in c.log_in-answer.result.answer ≡ (log_in a.g a.first.now).answer) = ap (λ (r : Reply). r.answer) c.log_in-answer.ensures in
    let passed : succeeded c.log_in-answer.result.answer ≡ true = sym c.succeeded.ensures ∙ c.if-not-succeeded.false in
    let ready : (let a = c.args in Accepted a.g a.first.now) = accepted _ _ (sym (ap succeeded said) ∙ passed) in
    ready.law

pub returns-then-second-bytes : goal.returns-then-second-bytes
returns-then-second-bytes c =
    let said : (let a = c.args in c.log_in-answer.result.answer ≡ (log_in a.g a.first.now).answer) = ap (λ (r : Reply). r.answer) c.log_in-answer.ensures in
    let passed : succeeded c.log_in-answer.result.answer ≡ true = sym c.succeeded.ensures ∙ c.if-not-succeeded.false in
    let a = c.args in
    second_refused a.g a.first.now a.second.now said passed
    (ap (λ (n : ℕ). eqb (length a.second.now) n) (sym c.bytes.ensures) ∙ ne_eqb _ _ c.if-second-bytes.true)

pub lay_out-requires : goal.lay_out-requires
lay_out-requires c =
    let said : (let a = c.args in c.log_in-answer.result.answer ≡ (log_in a.g a.first.now).answer) = ap (λ (r : Reply). r.answer) c.log_in-answer.ensures in
    let passed : succeeded c.log_in-answer.result.answer ≡ true = sym c.succeeded.ensures ∙ c.if-not-succeeded.false in
    let ready : (let a = c.args in Accepted a.g a.first.now) = accepted _ _ (sym (ap succeeded said) ∙ passed) in
    let r = ready in
    record {
      accepted = (r.law, (r.size, r.good));
      second_len = c.if-second-bytes.false ∙ c.bytes.ensures;
    }

pub returns : goal.returns
returns c =
    let said : (let a = c.args in c.log_in-answer.result.answer ≡ (log_in a.g a.first.now).answer) = ap (λ (r : Reply). r.answer) c.log_in-answer.ensures in
    let passed : succeeded c.log_in-answer.result.answer ≡ true = sym c.succeeded.ensures ∙ c.if-not-succeeded.false in
    let a = c.args in
    copy_done a.g a.first.now a.second.now said passed
    (ap (λ (n : ℕ). eqb (length a.second.now) n) (sym c.bytes.ensures) ∙ eq-eqb _ _ c.if-second-bytes.false) c.lay_out.ensures
