-- What is lent refuses, or the delete of the matches decides.
use Rattle.filecalls.proofs.NamingLaws.{held_or, after}
use Rattle.filecalls.proofs.CutLaws.{cut_named_no, cut_named_decided}
use Rattle.filecalls.specs.Tests.{protected_drive}
use Rattle.filecalls.specs.Names.{delete_act, delete_ladder}
use Rattle.disk_stores.specs.Stores.{directory_records, sweep_stores}
use Rattle.filecalls.specs.Outcome.{frees, changed_state}
use Rattle.call_answers.specs.Refusal.{is_none}
use Rattle.call_answers.specs.declared.Refusal.TheVariants.{Protected}
use Rattle.call_answers.proofs.Ladder.{ladder_one}
use Rattle.disk_volume.specs.Entry.{matches}
use Rattle.call_sweep.specs.Sweep.{erased}
use Rattle.call_delete.specs.Delete.{delete_tests, free_matches}
use Rattle.lists.specs.Bytes.{part}
use mathlib.Core.Bool.{true, not}
use Rattle.filecalls.proofs.OutcomeLaws.{either}
use Rattle.filecalls.proofs.StateLaws.{Named, named}
use Rattle.disk_volume.specs.Name.{name_at, name_of}
use native.Mathlib.Omega.{arith}
use mathlib.Core.List.{List, [], ◌∷◌}
use mathlib.Core.Path.{refl, ◌∙◌, ap}
use Prim.Native.Nat.{ℕ}
use borrow.Author.Rules.{rules}
use Rattle.filecalls.specs.CodeFront.{joined}
use Rattle.filecalls.proofs.Front.delete_most.Goals as goal

pub returns-then-not-is_none : goal.returns-then-not-is_none
unfolding delete_act delete_ladder
returns-then-not-is_none c =
    let a = c.args in
    cut_named_no (joined a.self a.held.now) a.volume.now a.fcb.now a.left.now true _ _ (c.named_why-why.ensures a.held.now) c.is_none.ensures (ap not c.if-not-is_none.true) (c.refused.ensures a.held.now)

pub slice_bounds-delete_matches-end : goal.slice_bounds-delete_matches-end
slice_bounds-delete_matches-end c =
    let clear : (held : List ℕ) → Named (joined c.args.self held) c.args.volume.now c.args.fcb.now true = λ (held : List ℕ). named _ _ _ true (c.named_why-why.ensures held) c.is_none.ensures (ap not c.if-not-is_none.false) in
    omega (arith, (clear []).lent.fcb)

pub delete_matches-why-requires : goal.delete_matches-why-requires
delete_matches-why-requires c =
    let clear : (held : List ℕ) → Named (joined c.args.self held) c.args.volume.now c.args.fcb.now true = λ (held : List ℕ). named _ _ _ true (c.named_why-why.ensures held) c.is_none.ensures (ap not c.if-not-is_none.false) in
    let l = (clear []).lent in record { volume_and = (l.state.law, (l.volume, search rules)); held_len = search rules }

pub returns : goal.returns
unfolding delete_act delete_ladder changed_state name_at part
returns c =
    let clear : (held : List ℕ) → Named (joined c.args.self held) c.args.volume.now c.args.fcb.now true = λ (held : List ℕ). named _ _ _ true (c.named_why-why.ensures held) c.is_none.ensures (ap not c.if-not-is_none.false) in
    let a = c.args in
    let d = joined a.self a.held.now in
    let v = a.volume.now in
    let f = a.fcb.now in
    let name = name_of f in
    let m = c.delete_matches-why in
    let t = is_none m.result in
    cut_named_decided d v f a.left.now (clear d.held) 0 (frees d.user name) (sweep_stores d.geometry (matches d.user name) erased v 0 (directory_records d.geometry)) f _
    (after (protected_drive d ∷ []) (delete_tests d.geometry v d.user name) (c.refuse-before.ensures ∙ ladder_one Protected d.protected refl) m.ensures.value)
    (held_or d t (free_matches d.geometry v d.user name d.held) m.ensures.held_after) m.ensures.volume_after (either t f) m.ensures.left_after (c.answered.ensures _)
