-- The ladder in parts: code asks a first group of tests and, where none of them is met, the next group.
use mathlib.Core.Path.{◌≡◌, refl, sym, ap, ◌∙◌}
use mathlib.Core.Bool.{Bool, true, false, false≢true}
use mathlib.Core.List.{List, [], ◌∷◌, ◌++◌}
use Rattle.call_answers.specs.declared.Refusal.{Refusal}
use Rattle.call_answers.specs.declared.Refusal.TheVariants.{None}
use Rattle.call_answers.specs.Refusal.{is_none, Test, test, refusing, first, first_met}

first_first : (a b c : Refusal) → first (first a b) c ≡ first a (first b c)
first_first a b c = go (is_none a) refl
  where
    go : (t : Bool) → is_none a ≡ t → first (first a b) c ≡ first a (first b c)
    go true e = rw e
    go false e = rw (e, e)

-- a ladder in two parts
pub ladder_append : (xs ys : List Test) → first_met (xs ++ ys) ≡ first (first_met xs) (first_met ys)
unfolding first_met
ladder_append [] ys = refl
ladder_append (t ∷ ts) ys =
    ap (first (refusing t.why t.met)) (ladder_append ts ys) ∙ sym (first_first (refusing t.why t.met) (first_met ts) (first_met ys))

-- the first part refuses
pub ladder_stop : (xs ys : List Test) → is_none (first_met xs) ≡ false → first_met (xs ++ ys) ≡ first_met xs
ladder_stop xs ys e = ladder_append xs ys ∙ rw e

-- the first part does not refuse
pub ladder_pass : (xs ys : List Test) → is_none (first_met xs) ≡ true → first_met (xs ++ ys) ≡ first_met ys
ladder_pass xs ys e = ladder_append xs ys ∙ rw e

-- no refusal: the first test is not met, and the rest does not refuse
pub unmet : (why : Refusal) (met : Bool) (ts : List Test) → is_none why ≡ false → is_none (first_met (test why met ∷ ts)) ≡ true
    → (met ≡ false) × (is_none (first_met ts) ≡ true)
unfolding first_met
unmet why true ts n e = absurd (false≢true (sym n ∙ sym (ap is_none (rest n)) ∙ e))
  where
    rest : is_none why ≡ false → first why (first_met ts) ≡ why
    rest n = rw n
unmet why false ts n e = (refl, e)

-- the last test of a ladder, and one to four tests as code asks them
first_none : (why : Refusal) (met : Bool) → is_none why ≡ false → first (refusing why met) None ≡ refusing why met
first_none why true n = rw n
first_none why false n = refl

pub ladder_one : (w : Refusal) (m : Bool) → is_none w ≡ false → refusing w m ≡ first_met (test w m ∷ [])
unfolding first_met
ladder_one w m h = sym (first_none w m h)

pub ladder_two : (w x : Refusal) (m n : Bool) → is_none x ≡ false → first (refusing w m) (refusing x n) ≡ first_met (test w m ∷ test x n ∷ [])
unfolding first_met
ladder_two w x m n h = ap (first (refusing w m)) (sym (first_none x n h))

pub ladder_three : (w x y : Refusal) (m n o : Bool) → is_none y ≡ false
    → first (refusing w m) (first (refusing x n) (refusing y o)) ≡ first_met (test w m ∷ test x n ∷ test y o ∷ [])
unfolding first_met
ladder_three w x y m n o h = ap (first (refusing w m)) (ladder_two x y n o h)

pub ladder_four : (w x y z : Refusal) (m n o p : Bool) → is_none z ≡ false
    → first (refusing w m) (first (refusing x n) (first (refusing y o) (refusing z p))) ≡ first_met (test w m ∷ test x n ∷ test y o ∷ test z p ∷ [])
unfolding first_met
ladder_four w x y z m n o p h = ap (first (refusing w m)) (ladder_three x y z n o p h)
