-- A volume that log-in accepts has the figures that were counted; any other is one refused volume.
use mathlib.Core.Path.{◌≡◌, sym, ap, ◌∙◌}
use mathlib.Core.Bool.{true, false}
use Rattle.call_answers.specs.Answer.{number_of, value_of, succeeded}
use Rattle.filecalls.specs.declared.Reply.{Reply}
use Rattle.filecalls.specs.LogIn.{log_in}
use Rattle.filecalls.proofs.ReadyLaws.{accepted}
use Rattle.shelf_holdings.specs.declared.Holdings.{Holdings}
use Rattle.shelf_figures.specs.Shelf.{accepted_one}
use Rattle.shelf_figures.proofs.ShelfLaws.{one_refused, one_accepted}
use Rattle.shelf_figures.proofs.look.Goals as goal

pub returns-then-not-succeeded : goal.returns-then-not-succeeded
returns-then-not-succeeded c =
    let said_is : (let a = c.args in c.number-said.result ≡ number_of (log_in a.g a.volume.now).answer) = c.number-said.ensures ∙ ap (λ (r : Reply). number_of r.answer) c.log_in-answer.ensures in
    let succeeded_is : (let a = c.args in succeeded (log_in a.g a.volume.now).answer ≡ c.succeeded.result) = sym (c.succeeded.ensures ∙ ap (λ (r : Reply). succeeded r.answer) c.log_in-answer.ensures) in
    let was_refused : (let a = c.args in succeeded (log_in a.g a.volume.now).answer ≡ false) = succeeded_is ∙ c.if-not-succeeded.true in
    record {
      said_value = said_is;
      alone_value = c.refused_one.ensures ∙ sym (one_refused _ _ was_refused);
    }

pub take_stock-stock-requires : goal.take_stock-stock-requires
take_stock-stock-requires c =
    let succeeded_is : (let a = c.args in succeeded (log_in a.g a.volume.now).answer ≡ c.succeeded.result) = sym (c.succeeded.ensures ∙ ap (λ (r : Reply). succeeded r.answer) c.log_in-answer.ensures) in
    let was_accepted : (let a = c.args in succeeded (log_in a.g a.volume.now).answer ≡ true) = succeeded_is ∙ c.if-not-succeeded.false in
    let a = accepted _ _ was_accepted in
    let free = c.value.ensures ∙ ap (λ (r : Reply). value_of r.answer) c.log_in-answer.ensures ∙ ap value_of a.answer in
    record {
      volume = (a.law, a.size);
      volume_value = (a.good, free);
    }

pub returns : goal.returns
returns c =
    let said_is : (let a = c.args in c.number-said.result ≡ number_of (log_in a.g a.volume.now).answer) = c.number-said.ensures ∙ ap (λ (r : Reply). number_of r.answer) c.log_in-answer.ensures in
    let succeeded_is : (let a = c.args in succeeded (log_in a.g a.volume.now).answer ≡ c.succeeded.result) = sym (c.succeeded.ensures ∙ ap (λ (r : Reply). succeeded r.answer) c.log_in-answer.ensures) in
    let was_accepted : (let a = c.args in succeeded (log_in a.g a.volume.now).answer ≡ true) = succeeded_is ∙ c.if-not-succeeded.false in
    record {
      said_value = said_is;
      alone_value = c.accepted_one.ensures ∙ ap (λ (h : Holdings). accepted_one h) c.take_stock-stock.ensures ∙ sym (one_accepted _ _ was_accepted);
    }
