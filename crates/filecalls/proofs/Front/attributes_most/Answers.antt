-- What is lent refuses, or the marking of the file decides, after the protection.
use Rattle.filecalls.specs.Tests.{protected_drive}
use Rattle.filecalls.specs.Names.{attributes_act, attributes_ladder}
use Rattle.call_answers.specs.Refusal.{test, is_none}
use Rattle.call_answers.specs.declared.Refusal.TheVariants.{Protected, NoMatch}
use Rattle.call_answers.proofs.Ladder.{ladder_one}
use Rattle.disk_volume.specs.Entry.{of_file}
use Rattle.call_sweep.specs.Sweep.{attributed}
use Rattle.disk_volume.specs.Directory.{find_slot}
use Rattle.disk_geometry.specs.Geometry.{slots}
use Rattle.disk_volume.specs.declared.Wanted.TheVariants.{File}
use Rattle.lists.specs.Bytes.{part}
use lib.Dec.{leb}
use mathlib.Core.Bool.{false, not}
use Rattle.filecalls.proofs.NamingLaws.{after}
use Rattle.filecalls.proofs.CutLaws.{cut_named_no, cut_named_decided}
use Rattle.filecalls.proofs.OutcomeLaws.{either}
use Rattle.filecalls.proofs.StateLaws.{Named, named}
use Rattle.disk_stores.specs.Stores.{directory_records, sweep_stores}
use Rattle.filecalls.specs.Outcome.{keeps, changed_state}
use Rattle.disk_volume.specs.Name.{name_at, name_of}
use native.Mathlib.Omega.{arith}
use mathlib.Core.List.{List, [], ◌∷◌}
use mathlib.Core.Path.{refl, ◌∙◌, ap}
use Prim.Native.Nat.{ℕ}
use borrow.Author.Rules.{rules}
use Rattle.filecalls.specs.CodeFront.{joined}
use Rattle.filecalls.proofs.Front.attributes_most.Goals as goal

pub returns-then-not-is_none : goal.returns-then-not-is_none
unfolding attributes_act attributes_ladder
returns-then-not-is_none c = λ (held : List ℕ).
    let a = c.args in
    cut_named_no (joined a.self held) a.volume.now a.fcb.now a.left.now false _ _ (c.named_why-why.ensures held) c.is_none.ensures (ap not c.if-not-is_none.true) (c.refused.ensures held)

pub slice_bounds-attribute_file-end : goal.slice_bounds-attribute_file-end
slice_bounds-attribute_file-end c =
    let clear : (held : List ℕ) → Named (joined c.args.self held) c.args.volume.now c.args.fcb.now false = λ (held : List ℕ). named _ _ _ false (c.named_why-why.ensures held) c.is_none.ensures (ap not c.if-not-is_none.false) in
    omega (arith, (clear []).lent.fcb)

pub attribute_file-why-requires : goal.attribute_file-why-requires
attribute_file-why-requires c =
    let clear : (held : List ℕ) → Named (joined c.args.self held) c.args.volume.now c.args.fcb.now false = λ (held : List ℕ). named _ _ _ false (c.named_why-why.ensures held) c.is_none.ensures (ap not c.if-not-is_none.false) in
    let l = (clear []).lent in (l.state.law, (l.volume, search rules))

pub returns : goal.returns
unfolding attributes_act attributes_ladder changed_state name_at part
returns c =
    let clear : (held : List ℕ) → Named (joined c.args.self held) c.args.volume.now c.args.fcb.now false = λ (held : List ℕ). named _ _ _ false (c.named_why-why.ensures held) c.is_none.ensures (ap not c.if-not-is_none.false) in
    λ (held : List ℕ).
    let a = c.args in
    let d = joined a.self held in
    let v = a.volume.now in
    let f = a.fcb.now in
    let m = c.attribute_file-why in
    let t = is_none m.result in
    cut_named_decided d v f a.left.now (clear held) 0 keeps (sweep_stores d.geometry (of_file d.user (name_of f)) (λ e. attributed e (part f 1 11)) v 0 (directory_records d.geometry)) f _
    (after (protected_drive d ∷ []) (test NoMatch (leb (slots d.geometry) (find_slot d.geometry v d.user (name_of f) File)) ∷ []) (c.refuse-before.ensures ∙ ladder_one Protected d.protected refl) m.ensures.value)
    (either t d) m.ensures.volume_after (either t f) m.ensures.left_after (c.answered.ensures held)
