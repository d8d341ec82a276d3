-- What is lent refuses, or the measuring of the file decides.
use mathlib.Core.Path.{ap}
use Rattle.filecalls.specs.Open.{size_act, size_tests}
use Rattle.call_answers.specs.Refusal.{is_none}
use Rattle.call_size.specs.Size.{size_of}
use Rattle.call_fcb.specs.Fcb.{with_random}
use mathlib.Core.Bool.{false, not}
use Rattle.filecalls.proofs.NamingLaws.{named_no, named_decided}
use Rattle.filecalls.proofs.OutcomeLaws.{either}
use Rattle.filecalls.proofs.StateLaws.{Named, named}
use Rattle.disk_stores.specs.Stores.{laid}
use Rattle.filecalls.specs.Outcome.{keeps, changed_state}
use Rattle.disk_volume.specs.Name.{name_of}
use mathlib.Core.List.{List, []}
use Prim.Native.Nat.{ℕ}
use Rattle.filecalls.specs.CodeFront.{joined}
use Rattle.filecalls.proofs.Front.file_size.Goals as goal

pub returns-then-not-is_none : goal.returns-then-not-is_none
unfolding size_act size_tests
returns-then-not-is_none c = λ (held : List ℕ).
    let a = c.args in
    named_no (joined a.self held) a.volume.now a.fcb.now false _ _ (c.named_why-why.ensures held) c.is_none.ensures (ap not c.if-not-is_none.true) (c.refused.ensures held)

pub measure-why-requires : goal.measure-why-requires
measure-why-requires c =
    let clear : (held : List ℕ) → Named (joined c.args.self held) c.args.volume.now c.args.fcb.now false = λ (held : List ℕ). named _ _ _ false (c.named_why-why.ensures held) c.is_none.ensures (ap not c.if-not-is_none.false) in
    let l = (clear []).lent in (l.state.law, (l.volume, l.fcb))

pub returns : goal.returns
unfolding size_act size_tests changed_state laid
returns c =
    let clear : (held : List ℕ) → Named (joined c.args.self held) c.args.volume.now c.args.fcb.now false = λ (held : List ℕ). named _ _ _ false (c.named_why-why.ensures held) c.is_none.ensures (ap not c.if-not-is_none.false) in
    λ (held : List ℕ).
    let a = c.args in
    let d = joined a.self held in
    let v = a.volume.now in
    let f = a.fcb.now in
    let m = c.measure-why in
    let t = is_none m.result in
    named_decided d v f (clear held) 0 keeps [] (with_random f (size_of d.geometry v d.user (name_of f))) _
    m.ensures.value (either t d) (either t v) m.ensures.fcb_after (c.answered.ensures held)
