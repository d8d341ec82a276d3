-- The first group stops the ladder where it refuses; else the last three tests decide.
use mathlib.Core.Path.{refl, sym, ◌∙◌, ap}
use mathlib.Core.Bool.{true, not, ◌&&◌}
use mathlib.Core.List.{List, [], ◌∷◌}
use native.Mathlib.Omega.{arith}
use lib.Dec.{ltb, eqb}
use lib.ListN.{length}
use Rattle.disk_volume.specs.Name.{good_name, name_at, name_of}
use Rattle.lists.specs.Bytes.{byte, part}
use Rattle.call_answers.specs.declared.Refusal.TheVariants.{DriveCode, Name, Position}
use Rattle.call_answers.specs.Refusal.{test}
use Rattle.call_answers.proofs.Ladder.{ladder_three, ladder_stop, ladder_pass}
use Rattle.filecalls.specs.CodeLadder.{lent_tests, first_lent}
use Rattle.filecalls.specs.Search.{examined}
use Rattle.filecalls.proofs.LentLaws.{LengthsLent, lengths_passed}
use Rattle.filecalls.proofs.OutcomeLaws.{refuses}
use Prim.Native.Nat.{ℕ}
use Rattle.filecalls.specs.CodeFront.{joined}
use Rattle.filecalls.proofs.Front.first_why.Goals as goal

pub returns-then-not-is_none : goal.returns-then-not-is_none
unfolding first_lent
returns-then-not-is_none c = λ (held : List ℕ).
    let a = c.args in
    let xs = lent_tests (joined a.self held) (length a.volume.now) (length a.fcb.now) (length a.buffer.now) in
    c.lent_why-why.ensures held ∙ sym (ladder_stop xs _ (refuses xs (c.lent_why-why.ensures held) c.is_none.ensures (ap not c.if-not-is_none.true)))

pub bounds-fcb-0 : goal.bounds-fcb-0
bounds-fcb-0 c =
    let passed : (held : List ℕ) → LengthsLent (joined c.args.self held) (length c.args.volume.now) (length c.args.fcb.now) (length c.args.buffer.now) = λ (held : List ℕ). lengths_passed _ _ _ _ (c.lent_why-why.ensures held) c.is_none.ensures (ap not c.if-not-is_none.false) in
    omega (arith, (passed []).lent.fcb)

pub slice_bounds-good_name-end : goal.slice_bounds-good_name-end
slice_bounds-good_name-end c =
    let passed : (held : List ℕ) → LengthsLent (joined c.args.self held) (length c.args.volume.now) (length c.args.fcb.now) (length c.args.buffer.now) = λ (held : List ℕ). lengths_passed _ _ _ _ (c.lent_why-why.ensures held) c.is_none.ensures (ap not c.if-not-is_none.false) in
    omega (arith, (passed []).lent.fcb)

pub bounds-fcb-0-2 : goal.bounds-fcb-0-2
bounds-fcb-0-2 c =
    let passed : (held : List ℕ) → LengthsLent (joined c.args.self held) (length c.args.volume.now) (length c.args.fcb.now) (length c.args.buffer.now) = λ (held : List ℕ). lengths_passed _ _ _ _ (c.lent_why-why.ensures held) c.is_none.ensures (ap not c.if-not-is_none.false) in
    omega (arith, (passed []).lent.fcb)

pub bounds-fcb-12 : goal.bounds-fcb-12
bounds-fcb-12 c =
    let passed : (held : List ℕ) → LengthsLent (joined c.args.self held) (length c.args.volume.now) (length c.args.fcb.now) (length c.args.buffer.now) = λ (held : List ℕ). lengths_passed _ _ _ _ (c.lent_why-why.ensures held) c.is_none.ensures (ap not c.if-not-is_none.false) in
    omega (arith, (passed []).lent.fcb)

pub bounds-fcb-12-2 : goal.bounds-fcb-12-2
bounds-fcb-12-2 c =
    let passed : (held : List ℕ) → LengthsLent (joined c.args.self held) (length c.args.volume.now) (length c.args.fcb.now) (length c.args.buffer.now) = λ (held : List ℕ). lengths_passed _ _ _ _ (c.lent_why-why.ensures held) c.is_none.ensures (ap not c.if-not-is_none.false) in
    omega (arith, (passed []).lent.fcb)

pub returns : goal.returns
unfolding first_lent name_at part
returns c =
    let passed : (held : List ℕ) → LengthsLent (joined c.args.self held) (length c.args.volume.now) (length c.args.fcb.now) (length c.args.buffer.now) = λ (held : List ℕ). lengths_passed _ _ _ _ (c.lent_why-why.ensures held) c.is_none.ensures (ap not c.if-not-is_none.false) in
    λ (held : List ℕ).
    let a = c.args in
    let f = a.fcb.now in
    let xs = lent_tests (joined a.self held) (length a.volume.now) (length f) (length a.buffer.now) in
    let m = ltb 1 (byte f 0) && examined f in
    let n = examined f && not (good_name true (name_of f)) in
    let o = examined f && ltb 31 (byte f 12) && not (eqb (byte f 12) 63) in
    c.first_of-2.ensures
    ∙ rw (c.first_of.ensures, c.refuse-a.ensures, c.refuse-b.ensures, c.refuse-c.ensures, c.good_name-good.ensures) (ladder_three DriveCode Name Position m n o refl)
    ∙ sym (ladder_pass xs (test DriveCode m ∷ test Name n ∷ test Position o ∷ []) (passed held).none)
