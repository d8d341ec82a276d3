-- Laws of the bounded searches.
-- First those of a loop that goes from `from` up to n: its invariant is a record that says "what is still to be
-- searched from here gives the whole". Then what a search tells of the numbers it passed, and the ways back.
use mathlib.Core.Path.{◌≡◌, refl, sym, ap, ◌∙◌}
use mathlib.Core.Bool.{Bool, true, false, cond, true≢false, false≢true}
use Prim.Native.Nat.{ℕ, zero, suc, ◌+◌, ◌-◌, ◌≤◌, ◌<◌}
use native.Mathlib.Decide.{ℕ_discrete}
use native.Mathlib.Numerals.{add-one}
use native.Mathlib.Omega.{arith}
use lib.Dec.{ltb}
use borrow.Author.Tests.{lt-ltb, le-ltb}
use Rattle.lists.specs.Bounded.{low_from, any_from, every_from, count_from, lowest}

step : (n i : ℕ) → i < n → n - i ≡ suc (n - (i + 1))
step n i h = omega arith

-- ---- a loop that looks for the lowest
pub record Searched (p : ℕ → Bool) (from n i : ℕ) : Type 0 where
  pub rest : low_from p from (n - from) ≡ low_from p i (n - i)

module _ {p : ℕ → Bool} {from n : ℕ} where
  pub searched_start : Searched p from n from
  searched_start = record { rest = refl }

  pub searched_next : {i : ℕ} → Searched p from n i → i < n → p i ≡ false → Searched p from n (i + 1)
  unfolding low_from
  searched_next {i} s h e = record { rest = s.rest ∙ rw (step n i h, e, add-one) }

  -- several at once
  pub searched_over : {i : ℕ} (k : ℕ) → Searched p from n i → i + k ≤ n → ((m : ℕ) → i ≤ m → m < i + k → p m ≡ false) → Searched p from n (i + k)
  searched_over {i} zero s h f = let z : i + 0 ≡ i = omega arith in rw z s
  searched_over {i} (suc k) s h f =
      let z : i + suc k ≡ (i + 1) + k = omega arith in
      rw z (searched_over {i = i + 1} k (searched_next s (omega arith) (f i (omega arith) (omega arith))) (omega arith) (λ m low high. f m (omega arith) (omega arith)))

  pub searched_hit : {i : ℕ} → Searched p from n i → i < n → p i ≡ true → low_from p from (n - from) ≡ i
  unfolding low_from
  searched_hit {i} s h e = s.rest ∙ rw (step n i h, e)

  pub searched_none : {i : ℕ} → Searched p from n i → n ≤ i → low_from p from (n - from) ≡ i
  unfolding low_from
  searched_none {i} s h = s.rest ∙ (let z : n - i ≡ 0 = omega arith in rw z)

-- a search from 0, as a loop has it and as the definitions have it
pub from_zero : (p : ℕ → Bool) (n : ℕ) → low_from p 0 (n - 0) ≡ lowest n p
from_zero p n = let z : n - 0 ≡ n = omega arith in rw z

-- ---- a loop that asks whether each passes
pub record Passed (p : ℕ → Bool) (from n i : ℕ) : Type 0 where
  pub rest : every_from p from (n - from) ≡ every_from p i (n - i)

module _ {p : ℕ → Bool} {from n : ℕ} where
  pub passed_start : Passed p from n from
  passed_start = record { rest = refl }

  pub passed_next : {i : ℕ} → Passed p from n i → i < n → p i ≡ true → Passed p from n (i + 1)
  unfolding every_from
  passed_next {i} s h e = record { rest = s.rest ∙ rw (step n i h, e, add-one) }

  pub passed_fails : {i : ℕ} → Passed p from n i → i < n → p i ≡ false → every_from p from (n - from) ≡ false
  unfolding every_from
  passed_fails {i} s h e = s.rest ∙ rw (step n i h, e)

  pub passed_all : {i : ℕ} → Passed p from n i → n ≤ i → every_from p from (n - from) ≡ true
  unfolding every_from
  passed_all {i} s h = s.rest ∙ (let z : n - i ≡ 0 = omega arith in rw z)

-- ---- what the lowest is
pub record Low (p : ℕ → Bool) (i k j : ℕ) : Type 0 where
  pub from : i ≤ j
  pub below : j < i + k
  pub passes : p j ≡ true
  pub first : (m : ℕ) → i ≤ m → m < j → p m ≡ false

pub low_le : (p : ℕ → Bool) (i k : ℕ) → low_from p i k ≤ i + k
unfolding low_from
low_le p i zero = omega arith
low_le p i (suc k) = go (p i) (low_le p (suc i) k)
  where
    go : (t : Bool) → low_from p (suc i) k ≤ suc i + k → cond t i (low_from p (suc i) k) ≤ i + suc k
    go true h = omega arith
    go false h = omega arith

pub low_hit : (p : ℕ → Bool) (i k j : ℕ) → low_from p i k ≡ j → j < i + k → Low p i k j
unfolding low_from
low_hit p i zero j e h = absurd (omega arith)
low_hit p i (suc k) j e h = go (p i) refl e (λ f. low_hit p (suc i) k j f (omega arith))
  where
    go : (t : Bool) → p i ≡ t → cond t i (low_from p (suc i) k) ≡ j → (low_from p (suc i) k ≡ j → Low p (suc i) k j) → Low p i (suc k) j
    go true q f ih = record { from = omega arith; below = omega arith; passes = rw (← f) q; first = λ m a b. absurd (omega arith) }
    go false q f ih =
        let l : Low p (suc i) k j = ih f in
        record { from = omega arith; below = omega arith; passes = l.passes; first = λ m a b. at m a b l (ℕ_discrete i m) }
      where
        at : (m : ℕ) → i ≤ m → m < j → Low p (suc i) k j → Dec (i ≡ m) → p m ≡ false
        at m a b l (yes z) = rw (← z) q
        at m a b l (no z) = l.first m (omega arith) b

pub low_miss : (p : ℕ → Bool) (i k : ℕ) → i + k ≤ low_from p i k → (m : ℕ) → i ≤ m → m < i + k → p m ≡ false
unfolding low_from
low_miss p i zero e m a b = absurd (omega arith)
low_miss p i (suc k) e m a b = go (p i) refl e (λ f h. low_miss p (suc i) k f m h (omega arith)) (ℕ_discrete i m)
  where
    go : (t : Bool) → p i ≡ t → i + suc k ≤ cond t i (low_from p (suc i) k) → (suc i + k ≤ low_from p (suc i) k → suc i ≤ m → p m ≡ false) → Dec (i ≡ m) → p m ≡ false
    go true q f ih d = absurd (omega arith)
    go false q f ih (yes z) = rw (← z) q
    go false q f ih (no z) = ih (omega arith) (omega arith)

pub low_no : (p : ℕ → Bool) (i k : ℕ) → ((m : ℕ) → i ≤ m → m < i + k → p m ≡ false) → low_from p i k ≡ i + k
unfolding low_from
low_no p i zero h = omega arith
low_no p i (suc k) h = rw (h i (omega arith) (omega arith)) (low_no p (suc i) k (λ m a b. h m (omega arith) (omega arith)) ∙ omega arith)

pub low_is : (p : ℕ → Bool) (i k j : ℕ) → Low p i k j → low_from p i k ≡ j
unfolding low_from
low_is p i zero j l = absurd (omega (arith, l.from, l.below))
low_is p i (suc k) j l = go (ℕ_discrete i j) (λ h. low_is p (suc i) k j h)
  where
    go : Dec (i ≡ j) → (Low p (suc i) k j → low_from p (suc i) k ≡ j) → cond (p i) i (low_from p (suc i) k) ≡ j
    go (yes z) ih = let q : p i ≡ true = ap p z ∙ l.passes in rw q z
    go (no z) ih =
        let q : p i ≡ false = l.first i (omega arith) (omega (arith, l.from)) in
        rw q (ih (record { from = omega (arith, l.from); below = omega (arith, l.below); passes = l.passes; first = λ m a b. l.first m (omega arith) b }))

pub low_ext : (p q : ℕ → Bool) (i k : ℕ) → ((m : ℕ) → i ≤ m → m < i + k → p m ≡ q m) → low_from p i k ≡ low_from q i k
unfolding low_from
low_ext p q i zero h = refl
low_ext p q i (suc k) h = rw (h i (omega arith) (omega arith), low_ext p q (suc i) k (λ m a b. h m (omega arith) (omega arith)))

-- ---- what "any" tells
pub record Hit (p : ℕ → Bool) (i k : ℕ) : Type 0 where
  pub place : ℕ
  pub from : i ≤ place
  pub below : place < i + k
  pub passes : p place ≡ true

pub any_ext : (p q : ℕ → Bool) (i k : ℕ) → ((m : ℕ) → i ≤ m → m < i + k → p m ≡ q m) → any_from p i k ≡ any_from q i k
unfolding any_from
any_ext p q i zero h = refl
any_ext p q i (suc k) h = rw (h i (omega arith) (omega arith), any_ext p q (suc i) k (λ m a b. h m (omega arith) (omega arith)))

pub any_false : (p : ℕ → Bool) (i k : ℕ) → any_from p i k ≡ false → (m : ℕ) → i ≤ m → m < i + k → p m ≡ false
unfolding any_from
any_false p i zero e m a b = absurd (omega arith)
any_false p i (suc k) e m a b = go (p i) refl e (λ f h. any_false p (suc i) k f m h (omega arith)) (ℕ_discrete i m)
  where
    go : (t : Bool) → p i ≡ t → cond t true (any_from p (suc i) k) ≡ false → (any_from p (suc i) k ≡ false → suc i ≤ m → p m ≡ false) → Dec (i ≡ m) → p m ≡ false
    go true q f ih d = absurd (true≢false f)
    go false q f ih (yes z) = rw (← z) q
    go false q f ih (no z) = ih f (omega arith)

pub any_true : (p : ℕ → Bool) (i k : ℕ) → any_from p i k ≡ true → Hit p i k
unfolding any_from
any_true p i zero e = absurd (false≢true e)
any_true p i (suc k) e = go (p i) refl e (any_true p (suc i) k)
  where
    go : (t : Bool) → p i ≡ t → cond t true (any_from p (suc i) k) ≡ true → (any_from p (suc i) k ≡ true → Hit p (suc i) k) → Hit p i (suc k)
    go true q f ih = record { place = i; from = omega arith; below = omega arith; passes = q }
    go false q f ih = let l : Hit p (suc i) k = ih f in record { place = l.place; from = omega arith; below = omega arith; passes = l.passes }

pub any_intro : (p : ℕ → Bool) (i k m : ℕ) → i ≤ m → m < i + k → p m ≡ true → any_from p i k ≡ true
any_intro p i k m a b e = go (any_from p i k) refl
  where
    go : (t : Bool) → any_from p i k ≡ t → any_from p i k ≡ true
    go true q = q
    go false q = absurd (true≢false (sym e ∙ any_false p i k q m a b))

pub any_none : (p : ℕ → Bool) (i k : ℕ) → ((m : ℕ) → i ≤ m → m < i + k → p m ≡ false) → any_from p i k ≡ false
any_none p i k h = go (any_from p i k) refl
  where
    go : (t : Bool) → any_from p i k ≡ t → any_from p i k ≡ false
    go false q = q
    go true q = let l : Hit p i k = any_true p i k q in absurd (false≢true (sym (h l.place l.from l.below) ∙ l.passes))

-- "any" is a search that finds
pub any_low : (p : ℕ → Bool) (i k : ℕ) → any_from p i k ≡ ltb (low_from p i k) (i + k)
unfolding any_from low_from
any_low p i zero = sym (le-ltb i (i + 0) (omega arith))
any_low p i (suc k) = go (p i) (any_low p (suc i) k)
  where
    go : (t : Bool) → any_from p (suc i) k ≡ ltb (low_from p (suc i) k) (suc i + k) → cond t true (any_from p (suc i) k) ≡ ltb (cond t i (low_from p (suc i) k)) (i + suc k)
    go true ih = sym (lt-ltb i (i + suc k) (omega arith))
    go false ih = let z : suc i + k ≡ i + suc k = omega arith in ih ∙ ap (λ (x : ℕ). ltb (low_from p (suc i) k) x) z

-- ---- what "every" tells
pub every_true : (p : ℕ → Bool) (i k : ℕ) → every_from p i k ≡ true → (m : ℕ) → i ≤ m → m < i + k → p m ≡ true
unfolding every_from
every_true p i zero e m a b = absurd (omega arith)
every_true p i (suc k) e m a b = go (p i) refl e (λ f h. every_true p (suc i) k f m h (omega arith)) (ℕ_discrete i m)
  where
    go : (t : Bool) → p i ≡ t → cond t (every_from p (suc i) k) false ≡ true → (every_from p (suc i) k ≡ true → suc i ≤ m → p m ≡ true) → Dec (i ≡ m) → p m ≡ true
    go false q f ih d = absurd (false≢true f)
    go true q f ih (yes z) = rw (← z) q
    go true q f ih (no z) = ih f (omega arith)

pub every_intro : (p : ℕ → Bool) (i k : ℕ) → ((m : ℕ) → i ≤ m → m < i + k → p m ≡ true) → every_from p i k ≡ true
unfolding every_from
every_intro p i zero h = refl
every_intro p i (suc k) h = rw (h i (omega arith) (omega arith)) (every_intro p (suc i) k (λ m a b. h m (omega arith) (omega arith)))

pub every_ext : (p q : ℕ → Bool) (i k : ℕ) → ((m : ℕ) → i ≤ m → m < i + k → p m ≡ q m) → every_from p i k ≡ every_from q i k
unfolding every_from
every_ext p q i zero h = refl
every_ext p q i (suc k) h = rw (h i (omega arith) (omega arith), every_ext p q (suc i) k (λ m a b. h m (omega arith) (omega arith)))

-- ---- counting
pub count_ext : (p q : ℕ → Bool) (i k : ℕ) → ((m : ℕ) → i ≤ m → m < i + k → p m ≡ q m) → count_from p i k ≡ count_from q i k
unfolding count_from
count_ext p q i zero h = refl
count_ext p q i (suc k) h = rw (h i (omega arith) (omega arith), count_ext p q (suc i) k (λ m a b. h m (omega arith) (omega arith)))
