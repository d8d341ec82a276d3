-- The number, the rules, the call.
use Rattle.memory_calls.proofs.CallLaws.{within_ready}
use Rattle.memory_calls.specs.Table.{within_rules}
use Rattle.memory_calls.specs.Calls.{memory_call}
use mathlib.Core.Bool.{true, false}
use mathlib.Core.Path.{◌≡◌, sym, ◌∙◌}
use Rattle.memory_calls.proofs.memory_call.Goals as goal

pub serve-requires : goal.serve-requires
serve-requires c = within_ready _ _ (sym c.is_within_rules.ensures ∙ c.if-is_within_rules.true)

pub returns-then-is_within_rules : goal.returns-then-is_within_rules
unfolding memory_call
returns-then-is_within_rules c =
    let a = c.args in
    let e : within_rules a.bytes a.t ≡ true = sym c.is_within_rules.ensures ∙ c.if-is_within_rules.true in
    rw (c.if-function.true, e) c.serve.ensures

pub returns-then-function : goal.returns-then-function
unfolding memory_call
returns-then-function c =
    let a = c.args in
    let e : within_rules a.bytes a.t ≡ false = sym c.is_within_rules.ensures ∙ c.if-is_within_rules.false in
    rw (c.if-function.true, e) c.refuse.ensures

pub returns : goal.returns
unfolding memory_call
returns c = rw c.if-function.false c.refuse-2.ensures
