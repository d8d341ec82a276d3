-- What is lent refuses, or the slot that close means decides.
use Rattle.filecalls.specs.Open.{close_act, close_tests}
use Rattle.call_answers.specs.Refusal.{is_none}
use Rattle.call_open.specs.Open.{close_slot}
use Prim.Native.Nat.{ℕ, ◌%◌}
use mathlib.Core.Bool.{false, not}
use Rattle.filecalls.proofs.NamingLaws.{named_no, named_decided}
use Rattle.filecalls.proofs.OutcomeLaws.{either}
use Rattle.filecalls.proofs.StateLaws.{Named, named}
use Rattle.disk_stores.specs.Stores.{laid}
use Rattle.filecalls.specs.Outcome.{keeps, changed_state}
use mathlib.Core.List.{List, []}
use mathlib.Core.Path.{◌≡◌, ◌∙◌, ap}
use Rattle.filecalls.specs.CodeFront.{joined}
use Rattle.filecalls.proofs.Front.close_file.Goals as goal

pub returns-then-not-is_none : goal.returns-then-not-is_none
unfolding close_act close_tests
returns-then-not-is_none c = λ (held : List ℕ).
    let a = c.args in
    named_no (joined a.self held) a.volume.now a.fcb.now false _ _ (c.named_why-why.ensures held) c.is_none.ensures (ap not c.if-not-is_none.true) (c.refused.ensures held)

pub close_file-found-requires : goal.close_file-found-requires
close_file-found-requires c =
    let clear : (held : List ℕ) → Named (joined c.args.self held) c.args.volume.now c.args.fcb.now false = λ (held : List ℕ). named _ _ _ false (c.named_why-why.ensures held) c.is_none.ensures (ap not c.if-not-is_none.false) in
    let l = (clear []).lent in (l.state.law, (l.volume, l.fcb))

pub returns : goal.returns
unfolding close_act close_tests changed_state laid
returns c =
    let clear : (held : List ℕ) → Named (joined c.args.self held) c.args.volume.now c.args.fcb.now false = λ (held : List ℕ). named _ _ _ false (c.named_why-why.ensures held) c.is_none.ensures (ap not c.if-not-is_none.false) in
    λ (held : List ℕ).
    let a = c.args in
    let d = joined a.self held in
    let v = a.volume.now in
    let f = a.fcb.now in
    let m = c.close_file-found in
    let t = is_none m.result.why in
    let slot = close_slot d.geometry v d.user f in
    let e : m.result.slot ≡ slot = m.ensures.slot_value in
    named_decided d v f (clear held) (slot % 4) keeps [] f _
    m.ensures.why_value (either t d) (either t v) (either t f) (c.answered.ensures held ∙ rw e)
