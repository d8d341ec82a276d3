-- Refused by its tests, or the position goes into r0 r1 r2.
use Rattle.filecalls.proofs.OutcomeLaws.{refused_at, clears}
use Rattle.filecalls.specs.Small.{set_random_tests, set_random_act}
use Rattle.disk_stores.specs.Stores.{laid}
use Rattle.filecalls.specs.Outcome.{changed_state, outcome, unless}
use Rattle.call_answers.proofs.Ladder.{unmet}
use Rattle.call_answers.specs.Refusal.{first_met, is_none}
use Rattle.call_answers.specs.declared.Refusal.TheVariants.{Closed, FcbLength}
use borrow.Author.Tests.{not-false, eqb-true}
use lib.ListN.{length}
use lib.Dec.{eqb}
use native.Mathlib.Omega.{arith}
use mathlib.Core.Bool.{true, not}
use mathlib.Core.List.{List, []}
use mathlib.Core.Path.{◌≡◌, ap, refl}
use Prim.Native.Nat.{ℕ}
use Rattle.filecalls.proofs.JoinLaws.{reply_left}
use Rattle.filecalls.specs.CodeFront.{joined}
use Rattle.filecalls.proofs.Front.set_random.Goals as goal

pub returns-then-not-is_none : goal.returns-then-not-is_none
unfolding set_random_act set_random_tests
returns-then-not-is_none c = λ (held : List ℕ).
    let a = c.args in
    refused_at (joined a.self held) [] a.fcb.now [] (set_random_tests (joined a.self held) a.fcb.now) [] _ (c.position_why-why.ensures held) c.is_none.ensures (ap not c.if-not-is_none.true) (c.refused.ensures held)

pub position_of-n-requires : goal.position_of-n-requires
unfolding set_random_tests
position_of-n-requires c =
    let none : (held : List ℕ) → is_none (first_met (set_random_tests (joined c.args.self held) c.args.fcb.now)) ≡ true = λ (held : List ℕ). clears (set_random_tests (joined c.args.self held) c.args.fcb.now) (c.position_why-why.ensures held) c.is_none.ensures (ap not c.if-not-is_none.false) in
    let whole : length c.args.fcb.now ≡ 36 = (let x = unmet Closed _ _ refl (none []) in
    let y = unmet FcbLength _ _ refl x.1 in
    eqb-true _ _ (not-false (eqb (length c.args.fcb.now) 36) y.0)) in
    whole

pub set_random-requires : goal.set_random-requires
unfolding set_random_tests
set_random-requires c =
    let none : (held : List ℕ) → is_none (first_met (set_random_tests (joined c.args.self held) c.args.fcb.now)) ≡ true = λ (held : List ℕ). clears (set_random_tests (joined c.args.self held) c.args.fcb.now) (c.position_why-why.ensures held) c.is_none.ensures (ap not c.if-not-is_none.false) in
    let whole : length c.args.fcb.now ≡ 36 = (let x = unmet Closed _ _ refl (none []) in
    let y = unmet FcbLength _ _ refl x.1 in
    eqb-true _ _ (not-false (eqb (length c.args.fcb.now) 36) y.0)) in
    (whole, omega (arith, c.position_of-n.ensures.1))

pub returns : goal.returns
unfolding set_random_act set_random_tests unless outcome changed_state laid
returns c =
    let none : (held : List ℕ) → is_none (first_met (set_random_tests (joined c.args.self held) c.args.fcb.now)) ≡ true = λ (held : List ℕ). clears (set_random_tests (joined c.args.self held) c.args.fcb.now) (c.position_why-why.ensures held) c.is_none.ensures (ap not c.if-not-is_none.false) in
    λ (held : List ℕ). reply_left (c.done.ensures held) (rw (none held, c.set_random.ensures, c.position_of-n.ensures.0))
