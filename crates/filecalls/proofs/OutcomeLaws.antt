-- What a call leaves, read down its ladder: a group of tests refuses, or it passes and the rest decides.
use mathlib.Core.Path.{◌≡◌, refl, sym, ap, ◌∙◌}
use mathlib.Core.Bool.{Bool, true, false, not, cond, true≢false}
use mathlib.Core.List.{List, [], ◌∷◌, ◌++◌}
use Prim.Native.Nat.{ℕ}
use borrow.Author.Tests.{not-true, not-false}
use Rattle.call_answers.specs.declared.Refusal.{Refusal}
use Rattle.call_answers.specs.declared.Answer.TheVariants.{Done, Refused}
use Rattle.call_answers.specs.Refusal.{Test, test, is_none, first_met}
use Rattle.call_answers.specs.Answer.{succeeded}
use Rattle.call_answers.proofs.Ladder.{ladder_stop, ladder_pass}
use Rattle.filecalls.specs.declared.Drive.{Drive}
use Rattle.filecalls.specs.declared.Reply.{Reply}
use Rattle.disk_stores.specs.Stores.{Store, laid}
use Rattle.filecalls.specs.Outcome.{Change, keeps, takes, frees, protects, becomes, searches, Act, deny, done, unless, Outcome, outcome, left, changed_state}

-- a first group of tests refuses
pub stops : (xs ys : List Test) (act : Act) → is_none (first_met xs) ≡ false → unless (xs ++ ys) act ≡ deny (first_met xs)
unfolding unless
stops xs ys act e = rw (ladder_stop xs ys e, e)

-- it does not
pub passes : (xs ys : List Test) (act : Act) → is_none (first_met xs) ≡ true → unless (xs ++ ys) act ≡ unless ys act
unfolding unless
passes xs ys act e = rw (ladder_pass xs ys e)

-- one test, met and not met
pub met : (why : Refusal) (ys : List Test) (act : Act) → is_none why ≡ false → unless (test why true ∷ ys) act ≡ deny why
unfolding unless first_met
met why ys act n = rw (n, n)

pub not_met : (why : Refusal) (ys : List Test) (act : Act) → unless (test why false ∷ ys) act ≡ unless ys act
unfolding unless first_met
not_met why ys act = refl

-- a whole ladder refuses, and it does not
pub denies : (ts : List Test) (act : Act) → is_none (first_met ts) ≡ false → unless ts act ≡ deny (first_met ts)
unfolding unless
denies ts act e = rw e

pub does : (ts : List Test) (act : Act) → is_none (first_met ts) ≡ true → unless ts act ≡ act
unfolding unless
does ts act e = rw e

-- no tests left
pub all_passed : (act : Act) → unless [] act ≡ act
unfolding unless first_met
all_passed act = refl

-- what code learns of a group of tests from `if !is_none(why)`
pub refuses : {why : Refusal} {t : Bool} (xs : List Test) → why ≡ first_met xs → t ≡ is_none why → not t ≡ true → is_none (first_met xs) ≡ false
refuses {why} {t} xs e i h = ap is_none (sym e) ∙ sym i ∙ not-true t h

pub clears : {why : Refusal} {t : Bool} (xs : List Test) → why ≡ first_met xs → t ≡ is_none why → not t ≡ false → is_none (first_met xs) ≡ true
clears {why} {t} xs e i h = ap is_none (sym e) ∙ sym i ∙ not-false t h

-- a test after tests that have passed, met and not met; and a test by itself
pub stops_then : (xs : List Test) (why : Refusal) (m : Bool) (ys : List Test) (act : Act)
    → is_none (first_met xs) ≡ true → m ≡ true → is_none why ≡ false → unless (xs ++ (test why m ∷ ys)) act ≡ deny why
stops_then xs why m ys act n e w = passes xs (test why m ∷ ys) act n ∙ rw e (met why ys act w)

pub goes_on : (xs : List Test) (why : Refusal) (m : Bool) (ys : List Test) (act : Act)
    → is_none (first_met xs) ≡ true → m ≡ false → unless (xs ++ (test why m ∷ ys)) act ≡ unless ys act
goes_on xs why m ys act n e = passes xs (test why m ∷ ys) act n ∙ rw e (not_met why ys act)

pub stops_here : (why : Refusal) (m : Bool) (ys : List Test) (act : Act) → m ≡ true → is_none why ≡ false → unless (test why m ∷ ys) act ≡ deny why
stops_here why m ys act e w = rw e (met why ys act w)

pub goes_by : (why : Refusal) (m : Bool) (ys : List Test) (act : Act) → m ≡ false → unless (test why m ∷ ys) act ≡ unless ys act
goes_by why m ys act e = rw e (not_met why ys act)

-- what stays, stays whether or not the call is refused
pub either : {A : Type 0} (t : Bool) (x : A) → x ≡ cond t x x
either true x = refl
either false x = refl

-- an outcome's answer with all else as given
abbrev pub same_all : Outcome → Drive → List ℕ → List ℕ → List ℕ → Outcome
same_all o d v f b = record { answer = o.answer; drive = d; volume = v; fcb = f; buffer = b }

-- "A refusal hands back the state as given and alters no lent byte."
pub outcome_refused : (d : Drive) (v f b : List ℕ) (act : Act) → succeeded (outcome d v f b act).answer ≡ false
    → outcome d v f b act ≡ same_all (outcome d v f b act) d v f b
unfolding outcome
outcome_refused d v f b (deny why) e = refl
outcome_refused d v f b (done code change stores f' b') e = absurd (true≢false e)

-- the reply to a refusal, and the reply to an act that leaves state and volume as they are
module _ (d : Drive) (v f b : List ℕ) where
  pub says_no : {r : Reply} {why : Refusal} {u : Act} → u ≡ deny why → r ≡ record { answer = Refused why; drive = d } → left r v f b ≡ outcome d v f b u
  unfolding outcome
  says_no {r} {why} {u} e p = rw (p, e)

  -- a first group of tests refuses, as code learns it
  pub refused_at : {why : Refusal} {r : Reply} {t : Bool} (xs ys : List Test) (act : Act)
      → why ≡ first_met xs → t ≡ is_none why → not t ≡ true → r ≡ record { answer = Refused why; drive = d }
      → left r v f b ≡ outcome d v f b (unless (xs ++ ys) act)
  unfolding outcome
  refused_at {why} {r} {t} xs ys act e i h p = rw (p, stops xs ys act (refuses xs e i h), e)

  -- the last group of tests decides, and all that is left was changed only where it does not refuse
  pub decided : {why : Refusal} {r : Reply} {d' : Drive} {v' f' b' : List ℕ} (k : ℕ) (c : Change) (ss : List Store) (f₂ b₂ : List ℕ) (ys : List Test)
      → why ≡ first_met ys → d' ≡ cond (is_none why) (changed_state d v c) d → v' ≡ cond (is_none why) (laid d.geometry v ss) v
      → f' ≡ cond (is_none why) f₂ f → b' ≡ cond (is_none why) b₂ b → r ≡ record { answer = cond (is_none why) (Done k) (Refused why); drive = d' }
      → left r v' f' b' ≡ outcome d v f b (unless ys (done k c ss f₂ b₂))
  unfolding unless outcome
  decided {why} {r} {d'} {v'} {f'} {b'} k c ss f₂ b₂ ys e ed ev ef eb p = go (is_none why) refl
    where
      go : (t : Bool) → is_none why ≡ t → left r v' f' b' ≡ outcome d v f b (unless ys (done k c ss f₂ b₂))
      go true h = rw (p, ed, ev, ef, eb, ← e, h)
      go false h = rw (p, ed, ev, ef, eb, ← e, h)

-- no call changes the geometry
change_geometry : (d : Drive) (v : List ℕ) (c : Change) → (changed_state d v c).geometry ≡ d.geometry
unfolding changed_state
change_geometry d v keeps = refl
change_geometry d v (takes t x) = refl
change_geometry d v (frees u pattern) = refl
change_geometry d v protects = refl
change_geometry d v (becomes u) = refl
change_geometry d v (searches q) = refl

pub same_geometry : (d : Drive) (v f b : List ℕ) (act : Act) → (outcome d v f b act).drive.geometry ≡ d.geometry
unfolding outcome
same_geometry d v f b (deny why) = refl
same_geometry d v f b (done code c ss f' b') = change_geometry d v c
