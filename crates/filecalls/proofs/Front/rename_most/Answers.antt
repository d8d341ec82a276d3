-- What is lent refuses, or the renaming of the file decides, after the new name and the protection.
use Rattle.filecalls.proofs.NamingLaws.{after}
use Rattle.filecalls.proofs.CutLaws.{cut_named_no, cut_named_decided}
use Rattle.filecalls.specs.Names.{rename_act, rename_ladder}
use Rattle.call_answers.specs.Refusal.{is_none, first}
use Rattle.call_answers.specs.declared.Refusal.TheVariants.{Protected}
use Rattle.call_answers.proofs.Ladder.{ladder_one}
use Rattle.disk_volume.specs.Entry.{of_file}
use Rattle.call_sweep.specs.Sweep.{renamed}
use Rattle.call_rename.specs.Rename.{rename_tests}
use Rattle.call_fcb.specs.Fcb.{new_name}
use Rattle.disk_volume.specs.Name.{name_at, name_of}
use Rattle.lists.specs.Bytes.{part}
use mathlib.Core.Bool.{false, not}
use Rattle.filecalls.proofs.OutcomeLaws.{either}
use Rattle.filecalls.proofs.StateLaws.{Named, named}
use Rattle.filecalls.specs.Tests.{bad_name, untypeable, protected_drive}
use Rattle.disk_stores.specs.Stores.{directory_records, sweep_stores}
use Rattle.filecalls.specs.Outcome.{keeps, changed_state}
use native.Mathlib.Omega.{arith}
use mathlib.Core.List.{List, [], ◌∷◌}
use mathlib.Core.Path.{refl, ap, ◌∙◌}
use Prim.Native.Nat.{ℕ}
use borrow.Author.Rules.{rules}
use Rattle.filecalls.specs.CodeFront.{joined}
use Rattle.filecalls.proofs.Front.rename_most.Goals as goal

pub returns-then-not-is_none : goal.returns-then-not-is_none
unfolding rename_act rename_ladder
returns-then-not-is_none c = λ (held : List ℕ).
    let a = c.args in
    cut_named_no (joined a.self held) a.volume.now a.fcb.now a.left.now false _ _ (c.named_why-why.ensures held) c.is_none.ensures (ap not c.if-not-is_none.true) (c.refused.ensures held)

pub new_name_why-name-requires : goal.new_name_why-name-requires
new_name_why-name-requires c =
    let clear : (held : List ℕ) → Named (joined c.args.self held) c.args.volume.now c.args.fcb.now false = λ (held : List ℕ). named _ _ _ false (c.named_why-why.ensures held) c.is_none.ensures (ap not c.if-not-is_none.false) in
    (clear []).lent.fcb

pub slice_bounds-rename_file-end : goal.slice_bounds-rename_file-end
slice_bounds-rename_file-end c =
    let clear : (held : List ℕ) → Named (joined c.args.self held) c.args.volume.now c.args.fcb.now false = λ (held : List ℕ). named _ _ _ false (c.named_why-why.ensures held) c.is_none.ensures (ap not c.if-not-is_none.false) in
    omega (arith, (clear []).lent.fcb)

pub slice_bounds-rename_file-end-2 : goal.slice_bounds-rename_file-end-2
slice_bounds-rename_file-end-2 c =
    let clear : (held : List ℕ) → Named (joined c.args.self held) c.args.volume.now c.args.fcb.now false = λ (held : List ℕ). named _ _ _ false (c.named_why-why.ensures held) c.is_none.ensures (ap not c.if-not-is_none.false) in
    omega (arith, (clear []).lent.fcb)

pub rename_file-why-requires : goal.rename_file-why-requires
rename_file-why-requires c =
    let clear : (held : List ℕ) → Named (joined c.args.self held) c.args.volume.now c.args.fcb.now false = λ (held : List ℕ). named _ _ _ false (c.named_why-why.ensures held) c.is_none.ensures (ap not c.if-not-is_none.false) in
    let l = (clear []).lent in record { volume = (l.state.law, l.volume); name = (search rules, search rules) }

pub returns : goal.returns
unfolding rename_act rename_ladder changed_state name_at part
returns c =
    let clear : (held : List ℕ) → Named (joined c.args.self held) c.args.volume.now c.args.fcb.now false = λ (held : List ℕ). named _ _ _ false (c.named_why-why.ensures held) c.is_none.ensures (ap not c.if-not-is_none.false) in
    λ (held : List ℕ).
    let a = c.args in
    let d = joined a.self held in
    let v = a.volume.now in
    let f = a.fcb.now in
    let m = c.rename_file-why in
    let t = is_none m.result in
    cut_named_decided d v f a.left.now (clear held) 0 keeps (sweep_stores d.geometry (of_file d.user (name_of f)) (λ e. renamed e (part f 17 11)) v 0 (directory_records d.geometry)) f _
    (after (bad_name false f 17 ∷ untypeable f 17 ∷ protected_drive d ∷ []) (rename_tests d.geometry v d.user (name_of f) (new_name f))
    (after (bad_name false f 17 ∷ untypeable f 17 ∷ []) (protected_drive d ∷ []) c.new_name_why-name.ensures
    (c.first_of-before.ensures ∙ ap (first c.new_name_why-name.result) (c.refuse-protected.ensures ∙ ladder_one Protected d.protected refl)))
    m.ensures.value)
    (either t d) m.ensures.volume_after (either t f) m.ensures.left_after (c.answered.ensures held)
