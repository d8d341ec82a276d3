-- What is lent is asked first; then protection, the file, and whether one of its entries is read_only.
use mathlib.Core.Path.{refl, sym, ◌∙◌, ap}
use mathlib.Core.Bool.{false, not}
use mathlib.Core.List.{List, [], ◌∷◌}
use Prim.Native.Nat.{ℕ}
use native.Mathlib.Omega.{arith}
use lib.Dec.{leb, ltb}
use borrow.Author.Rules.{rules}
use Rattle.lists.specs.Bytes.{part}
use Rattle.disk_geometry.specs.Geometry.{slots}
use Rattle.disk_volume.specs.declared.Wanted.TheVariants.{File, ReadOnlyFile}
use Rattle.disk_volume.specs.Name.{name_at, name_of}
use Rattle.disk_volume.specs.Directory.{find_slot}
use Rattle.call_answers.specs.declared.Refusal.TheVariants.{Protected, NoFile, ReadOnly}
use Rattle.call_answers.specs.Refusal.{test}
use Rattle.call_answers.proofs.Ladder.{ladder_stop, ladder_pass, ladder_three}
use Rattle.filecalls.specs.Tests.{protected_drive}
use Rattle.filecalls.specs.Change.{change_tests}
use Rattle.filecalls.specs.CodeLadder.{plain_tests}
use Rattle.filecalls.specs.CodeFront.{joined}
use Rattle.filecalls.proofs.OutcomeLaws.{refuses}
use Rattle.filecalls.proofs.StateLaws.{Named, named, no_buffer}
use Rattle.filecalls.proofs.Front.change_why.Goals as goal

pub returns-then-not-is_none : goal.returns-then-not-is_none
unfolding change_tests
returns-then-not-is_none c = λ (held : List ℕ).
    let a = c.args in
    let xs = plain_tests (joined a.self held) a.volume.now a.fcb.now false in
    let e = c.named_why-why.ensures held ∙ no_buffer (joined a.self held) a.volume.now a.fcb.now false in
    e ∙ sym (ladder_stop xs _ (refuses xs e c.is_none.ensures (ap not c.if-not-is_none.true)))

pub slots-slots-requires : goal.slots-slots-requires
slots-slots-requires c =
    let clear : (held : List ℕ) → Named (joined c.args.self held) c.args.volume.now c.args.fcb.now false = λ (held : List ℕ). named _ _ _ false (c.named_why-why.ensures held) c.is_none.ensures (ap not c.if-not-is_none.false) in
    (clear []).lent.state.law

pub slice_bounds-find-end : goal.slice_bounds-find-end
slice_bounds-find-end c =
    let clear : (held : List ℕ) → Named (joined c.args.self held) c.args.volume.now c.args.fcb.now false = λ (held : List ℕ). named _ _ _ false (c.named_why-why.ensures held) c.is_none.ensures (ap not c.if-not-is_none.false) in
    omega (arith, (clear []).lent.fcb)

pub find-lowest-requires : goal.find-lowest-requires
find-lowest-requires c =
    let clear : (held : List ℕ) → Named (joined c.args.self held) c.args.volume.now c.args.fcb.now false = λ (held : List ℕ). named _ _ _ false (c.named_why-why.ensures held) c.is_none.ensures (ap not c.if-not-is_none.false) in
    let l = (clear []).lent in (l.state.law, (l.volume, search rules))

pub slice_bounds-find-end-2 : goal.slice_bounds-find-end-2
slice_bounds-find-end-2 c =
    let clear : (held : List ℕ) → Named (joined c.args.self held) c.args.volume.now c.args.fcb.now false = λ (held : List ℕ). named _ _ _ false (c.named_why-why.ensures held) c.is_none.ensures (ap not c.if-not-is_none.false) in
    omega (arith, (clear []).lent.fcb)

pub find-read_only-requires : goal.find-read_only-requires
find-read_only-requires c =
    let clear : (held : List ℕ) → Named (joined c.args.self held) c.args.volume.now c.args.fcb.now false = λ (held : List ℕ). named _ _ _ false (c.named_why-why.ensures held) c.is_none.ensures (ap not c.if-not-is_none.false) in
    let l = (clear []).lent in (l.state.law, (l.volume, search rules))

pub returns : goal.returns
unfolding change_tests name_at part
returns c =
    let clear : (held : List ℕ) → Named (joined c.args.self held) c.args.volume.now c.args.fcb.now false = λ (held : List ℕ). named _ _ _ false (c.named_why-why.ensures held) c.is_none.ensures (ap not c.if-not-is_none.false) in
    λ (held : List ℕ).
    let a = c.args in
    let d = joined a.self held in
    let v = a.volume.now in
    let f = a.fcb.now in
    let missing = leb (slots d.geometry) (find_slot d.geometry v d.user (name_of f) File) in
    let read_only = ltb (find_slot d.geometry v d.user (name_of f) ReadOnlyFile) (slots d.geometry) in
    c.first_of-2.ensures
    ∙ rw (c.first_of.ensures, c.refuse-a.ensures, c.refuse-b.ensures, c.refuse-c.ensures, c.find-lowest.ensures.0, c.find-read_only.ensures.0, c.slots-slots.ensures.0)
    (ladder_three Protected NoFile ReadOnly d.protected missing read_only refl)
    ∙ sym (ladder_pass (plain_tests d v f false) (protected_drive d ∷ test NoFile missing ∷ test ReadOnly read_only ∷ []) (clear held).none)
