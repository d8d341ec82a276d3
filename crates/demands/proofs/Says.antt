-- What an answer says of a call's tests: the first that is met, or one that the call may give when it succeeds.
use mathlib.Core.Path.{◌≡◌, refl, sym, ◌∙◌}
use mathlib.Core.Bool.{Bool, true, false, ◌||◌, or-true, true≢false, false≢true}
use mathlib.Core.List.{List, [], ◌∷◌}
use Prim.Native.Nat.{ℕ}
use lib.Dec.{eqb}
use borrow.Author.Tests.{eq-eqb}
use Rattle.call_answers.specs.declared.Answer.{Answer}
use Rattle.call_answers.specs.Refusal.{Test, refusal_number, is_none, refusing, first, first_met}
use Rattle.call_answers.specs.Answer.{number_of, succeeded}
use Rattle.demands.specs.Order.{numbers_of, reasons, among}

pub record Says (a : Answer) (ts : List Test) (ok : ℕ → Bool) : Type 0 where
  pub met : is_none (first_met ts) ≡ false → (succeeded a ≡ false) × (number_of a ≡ refusal_number (first_met ts))
  pub none : is_none (first_met ts) ≡ true → (succeeded a ≡ true) × (ok (number_of a) ≡ true)

-- a test is met exactly where the answer is a refusal
pub was_met : {a : Answer} {ts : List Test} {ok : ℕ → Bool} → Says a ts ok → succeeded a ≡ false → is_none (first_met ts) ≡ false
was_met {a} {ts} {ok} s h = go (is_none (first_met ts)) refl
  where
    go : (t : Bool) → is_none (first_met ts) ≡ t → is_none (first_met ts) ≡ false
    go true e = absurd (true≢false (sym (s.none e).0 ∙ h))
    go false e = e

pub was_none : {a : Answer} {ts : List Test} {ok : ℕ → Bool} → Says a ts ok → succeeded a ≡ true → is_none (first_met ts) ≡ true
was_none {a} {ts} {ok} s h = go (is_none (first_met ts)) refl
  where
    go : (t : Bool) → is_none (first_met ts) ≡ t → is_none (first_met ts) ≡ true
    go true e = e
    go false e = absurd (false≢true (sym (s.met e).0 ∙ h))

-- the first test that is met is one of the tests
pub number_among : (ts : List Test) → is_none (first_met ts) ≡ false → among (refusal_number (first_met ts)) (numbers_of (reasons ts)) ≡ true
unfolding first_met
number_among [] h = absurd (true≢false h)
number_among (t ∷ ts) h = go t.met (is_none t.why) refl h (number_among ts)
  where
    go : (m n : Bool) → is_none t.why ≡ n → is_none (first (refusing t.why m) (first_met ts)) ≡ false
        → (is_none (first_met ts) ≡ false → among (refusal_number (first_met ts)) (numbers_of (reasons ts)) ≡ true)
        → (eqb (refusal_number (first (refusing t.why m) (first_met ts))) (refusal_number t.why)
        || among (refusal_number (first (refusing t.why m) (first_met ts))) (numbers_of (reasons ts))) ≡ true
    go false n e h later = rw (later h, or-true)
    go true true e h later = rw e (rw (later (rw e at h), or-true))
    go true false e h later = rw (e, eq-eqb (refusal_number t.why) (refusal_number t.why) refl)
