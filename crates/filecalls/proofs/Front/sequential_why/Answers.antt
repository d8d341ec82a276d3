-- The first group stops the ladder where it refuses; else the last two tests decide.
use Rattle.filecalls.proofs.OutcomeLaws.{refuses}
use Rattle.filecalls.proofs.LentLaws.{NamedLent, named_passed}
use Rattle.filecalls.specs.Tests.{too_large, beyond}
use Rattle.filecalls.specs.CodeLadder.{named_tests, sequential_lent}
use Rattle.call_answers.proofs.Ladder.{ladder_stop, ladder_pass, ladder_two}
use Rattle.call_answers.specs.Refusal.{test}
use Rattle.call_answers.specs.declared.Refusal.TheVariants.{Position, Beyond}
use Rattle.call_fcb.specs.Fcb.{position, position_fits}
use lib.Dec.{eqb}
use native.Mathlib.Omega.{arith}
use mathlib.Core.List.{List, [], ◌∷◌}
use mathlib.Core.Bool.{false, not}
use mathlib.Core.Path.{refl, sym, ◌∙◌, ap}
use Prim.Native.Nat.{ℕ}
use Rattle.filecalls.specs.CodeFront.{joined}
use Rattle.filecalls.proofs.Front.sequential_why.Goals as goal

pub returns-then-not-is_none : goal.returns-then-not-is_none
unfolding sequential_lent
returns-then-not-is_none c = λ (held : List ℕ).
    let a = c.args in
    let xs = named_tests (joined a.self held) a.volume.now a.fcb.now a.buffer false in
    c.named_why-why.ensures held
    ∙ sym (ladder_stop xs (too_large (position_fits a.fcb.now) ∷ beyond (eqb (position a.fcb.now) 65536) ∷ []) (refuses xs (c.named_why-why.ensures held) c.is_none.ensures (ap not c.if-not-is_none.true)))

pub bounds-fcb-12 : goal.bounds-fcb-12
bounds-fcb-12 c =
    let passed : (held : List ℕ) → NamedLent (joined c.args.self held) c.args.volume.now c.args.fcb.now c.args.buffer false = λ (held : List ℕ). named_passed _ _ _ _ false (c.named_why-why.ensures held) c.is_none.ensures (ap not c.if-not-is_none.false) in
    omega (arith, (passed []).lent.fcb)

pub bounds-fcb-14 : goal.bounds-fcb-14
bounds-fcb-14 c =
    let passed : (held : List ℕ) → NamedLent (joined c.args.self held) c.args.volume.now c.args.fcb.now c.args.buffer false = λ (held : List ℕ). named_passed _ _ _ _ false (c.named_why-why.ensures held) c.is_none.ensures (ap not c.if-not-is_none.false) in
    omega (arith, (passed []).lent.fcb)

pub bounds-fcb-32 : goal.bounds-fcb-32
bounds-fcb-32 c =
    let passed : (held : List ℕ) → NamedLent (joined c.args.self held) c.args.volume.now c.args.fcb.now c.args.buffer false = λ (held : List ℕ). named_passed _ _ _ _ false (c.named_why-why.ensures held) c.is_none.ensures (ap not c.if-not-is_none.false) in
    omega (arith, (passed []).lent.fcb)

pub position_of-n-requires : goal.position_of-n-requires
position_of-n-requires c =
    let passed : (held : List ℕ) → NamedLent (joined c.args.self held) c.args.volume.now c.args.fcb.now c.args.buffer false = λ (held : List ℕ). named_passed _ _ _ _ false (c.named_why-why.ensures held) c.is_none.ensures (ap not c.if-not-is_none.false) in
    (passed []).lent.fcb

pub returns : goal.returns
unfolding sequential_lent
returns c =
    let passed : (held : List ℕ) → NamedLent (joined c.args.self held) c.args.volume.now c.args.fcb.now c.args.buffer false = λ (held : List ℕ). named_passed _ _ _ _ false (c.named_why-why.ensures held) c.is_none.ensures (ap not c.if-not-is_none.false) in
    λ (held : List ℕ).
    let a = c.args in
    let m = not (position_fits a.fcb.now) in
    let n = eqb (position a.fcb.now) 65536 in
    c.first_of.ensures
    ∙ rw (c.refuse-a.ensures, c.refuse-b.ensures, c.position_of-n.ensures.0) (ladder_two Position Beyond m n refl)
    ∙ sym (ladder_pass (named_tests (joined a.self held) a.volume.now a.fcb.now a.buffer false) (test Position m ∷ test Beyond n ∷ []) (passed held).none)
