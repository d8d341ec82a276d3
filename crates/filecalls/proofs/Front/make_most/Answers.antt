-- What is lent refuses, or the making of the file decides, after whether the name can be typed, the position and the
-- protection.
use Rattle.filecalls.proofs.NamingLaws.{after}
use Rattle.filecalls.proofs.CutLaws.{cut_named_no, cut_named_decided}
use Rattle.filecalls.specs.Names.{make_act, make_ladder}
use Rattle.filecalls.specs.Tests.{untypeable, too_large, protected_drive}
use Rattle.disk_stores.specs.Stores.{entry_stores}
use Rattle.filecalls.specs.Outcome.{keeps, changed_state}
use Rattle.call_answers.specs.Refusal.{is_none, first}
use Rattle.call_answers.specs.declared.Refusal.TheVariants.{Protected}
use Rattle.call_answers.proofs.Ladder.{ladder_one}
use Rattle.call_make.specs.Make.{make_tests, fresh_entry}
use Rattle.call_fcb.specs.Fcb.{made}
use Rattle.disk_volume.specs.Directory.{find_slot}
use Rattle.disk_volume.specs.declared.Wanted.TheVariants.{Empty}
use Rattle.lists.specs.Bytes.{byte, part}
use lib.Dec.{eqb}
use Prim.Native.Nat.{ℕ, ◌%◌}
use mathlib.Core.Bool.{false, not}
use Rattle.filecalls.proofs.OutcomeLaws.{either}
use Rattle.filecalls.proofs.StateLaws.{Named, named}
use Rattle.disk_volume.specs.Name.{name_at, name_of}
use mathlib.Core.List.{List, [], ◌∷◌}
use mathlib.Core.Path.{◌≡◌, refl, ap, ◌∙◌}
use Rattle.filecalls.specs.CodeFront.{joined}
use Rattle.filecalls.proofs.Front.make_most.Goals as goal

pub returns-then-not-is_none : goal.returns-then-not-is_none
unfolding make_act make_ladder
returns-then-not-is_none c = λ (held : List ℕ).
    let a = c.args in
    cut_named_no (joined a.self held) a.volume.now a.fcb.now a.left.now false _ _ (c.named_why-why.ensures held) c.is_none.ensures (ap not c.if-not-is_none.true) (c.refused.ensures held)

pub new_file_why-file-requires : goal.new_file_why-file-requires
new_file_why-file-requires c =
    let clear : (held : List ℕ) → Named (joined c.args.self held) c.args.volume.now c.args.fcb.now false = λ (held : List ℕ). named _ _ _ false (c.named_why-why.ensures held) c.is_none.ensures (ap not c.if-not-is_none.false) in
    (clear []).lent.fcb

pub make_file-made-requires : goal.make_file-made-requires
make_file-made-requires c =
    let clear : (held : List ℕ) → Named (joined c.args.self held) c.args.volume.now c.args.fcb.now false = λ (held : List ℕ). named _ _ _ false (c.named_why-why.ensures held) c.is_none.ensures (ap not c.if-not-is_none.false) in
    let l = (clear []).lent in (l.state.law, (l.volume, l.fcb))

pub returns : goal.returns
unfolding make_act make_ladder changed_state entry_stores name_at part
returns c =
    let clear : (held : List ℕ) → Named (joined c.args.self held) c.args.volume.now c.args.fcb.now false = λ (held : List ℕ). named _ _ _ false (c.named_why-why.ensures held) c.is_none.ensures (ap not c.if-not-is_none.false) in
    λ (held : List ℕ).
    let a = c.args in
    let d = joined a.self held in
    let v = a.volume.now in
    let f = a.fcb.now in
    let m = c.make_file-made in
    let t = is_none m.result.why in
    let slot = find_slot d.geometry v d.user (name_of f) Empty in
    let e : m.result.slot ≡ slot = m.ensures.slot_value in
    cut_named_decided d v f a.left.now (clear held) (slot % 4) keeps (entry_stores d.geometry v slot (fresh_entry d.user (name_of f))) (made f (name_of f)) _
    (after (untypeable f 1 ∷ too_large (eqb (byte f 12) 0) ∷ protected_drive d ∷ []) (make_tests d.geometry v d.user (name_of f))
    (after (untypeable f 1 ∷ too_large (eqb (byte f 12) 0) ∷ []) (protected_drive d ∷ []) c.new_file_why-file.ensures
    (c.first_of-before.ensures ∙ ap (first c.new_file_why-file.result) (c.refuse-protected.ensures ∙ ladder_one Protected d.protected refl)))
    m.ensures.why_value)
    (either t d) (rw (← e) m.ensures.volume_after) m.ensures.fcb_after m.ensures.left_after (c.answered.ensures held ∙ rw e)
