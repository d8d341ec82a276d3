-- The places passed so far are not used, so what is nearest below q is nearest below p.
use mathlib.Core.Path.{sym, ◌∙◌}
use native.Mathlib.Omega.{arith}
use Rattle.call_entry.proofs.TogetherLaws.{nearest_used, nearest_passed, nearest_none}
use Rattle.call_entry.proofs.nearest_below.Goals as goal

pub returns-then-b-ne0 : goal.returns-then-b-ne0
returns-then-b-ne0 c =
    let a = c.args in
    let l = c.loop-q in
    let b = c.block_in-b.ensures.0 in
    b ∙ sym (nearest_used a.g a.e.now l.q (omega arith) (λ z. c.if-b-ne0.true (b ∙ z))) ∙ l.invariant

pub loop-q-preserved : goal.loop-q-preserved
loop-q-preserved c =
    let a = c.args in
    let l = c.loop-q in
    let b = c.block_in-b.ensures.0 in
    sym (nearest_passed a.g a.e.now l.q (omega arith) (sym b ∙ c.if-b-ne0.false)) ∙ l.invariant

pub returns : goal.returns
returns c =
    let a = c.args in
    let l = c.loop-q in
    sym (nearest_none a.g a.e.now l.q (omega arith)) ∙ l.invariant
