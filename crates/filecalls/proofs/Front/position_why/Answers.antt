-- State and length are asked first; then drive code and position.
use Rattle.filecalls.specs.Small.{set_random_tests}
use borrow.Author.Tests.{ne_eqb}
use Rattle.filecalls.specs.Tests.{closed_state, fcb_length}
use Rattle.call_answers.proofs.Ladder.{ladder_pass, ladder_two}
use Rattle.call_answers.specs.Refusal.{first_met, test, is_none}
use Rattle.call_answers.specs.declared.Refusal.TheVariants.{DriveCode, Position}
use Rattle.call_fcb.specs.Fcb.{position_fits}
use Rattle.lists.specs.Bytes.{byte}
use lib.ListN.{length}
use lib.Dec.{ltb}
use native.Mathlib.Omega.{arith}
use mathlib.Core.List.{List, [], ◌∷◌}
use mathlib.Core.Bool.{true, not}
use mathlib.Core.Path.{◌≡◌, refl, sym, ◌∙◌}
use Prim.Native.Nat.{ℕ}
use Rattle.filecalls.specs.CodeFront.{joined}
use Rattle.filecalls.proofs.Front.position_why.Goals as goal

pub returns-then-not-is_open : goal.returns-then-not-is_open
unfolding set_random_tests first_met
returns-then-not-is_open c = λ (held : List ℕ). rw (← c.is_open.ensures held, c.if-not-is_open.true)

pub returns-then-not-whole : goal.returns-then-not-whole
unfolding set_random_tests first_met
returns-then-not-whole c = λ (held : List ℕ). rw (← c.is_open.ensures held, c.if-not-is_open.false, ne_eqb _ _ c.if-not-whole.true)

pub bounds-fcb-12 : goal.bounds-fcb-12
bounds-fcb-12 c =
    let whole : length c.args.fcb.now ≡ 36 = c.if-not-whole.false in
    omega (arith, whole)

pub bounds-fcb-14 : goal.bounds-fcb-14
bounds-fcb-14 c =
    let whole : length c.args.fcb.now ≡ 36 = c.if-not-whole.false in
    omega (arith, whole)

pub bounds-fcb-32 : goal.bounds-fcb-32
bounds-fcb-32 c =
    let whole : length c.args.fcb.now ≡ 36 = c.if-not-whole.false in
    omega (arith, whole)

pub bounds-fcb-0 : goal.bounds-fcb-0
bounds-fcb-0 c =
    let whole : length c.args.fcb.now ≡ 36 = c.if-not-whole.false in
    omega (arith, whole)

pub returns : goal.returns
unfolding set_random_tests first_met
returns c = λ (held : List ℕ).
    let a = c.args in
    let m = ltb 1 (byte a.fcb.now 0) in
    let n = not (position_fits a.fcb.now) in
    let h : is_none (first_met (closed_state (joined a.self held) ∷ fcb_length a.fcb.now ∷ [])) ≡ true = rw (← c.is_open.ensures held, c.if-not-is_open.false, c.if-not-whole.false) in
    c.first_of.ensures
    ∙ rw (c.refuse-a.ensures, c.refuse-b.ensures) (ladder_two DriveCode Position m n refl)
    ∙ sym (ladder_pass (closed_state (joined a.self held) ∷ fcb_length a.fcb.now ∷ []) (test DriveCode m ∷ test Position n ∷ []) h)
