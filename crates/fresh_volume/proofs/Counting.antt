-- A list of different numbers, all of the n numbers from a on: as many of these are in the list as it is long.
use mathlib.Core.Path.{◌≡◌, refl, sym, ap, ◌∙◌}
use mathlib.Core.Bool.{Bool, false, cond, ◌||◌, or-false}
use mathlib.Core.Logic.{◌≢◌}
use mathlib.Core.List.{List}
use Prim.Native.Nat.{ℕ, zero, suc, ◌+◌, ◌≤◌, ◌<◌}
use native.Mathlib.Decide.{ℕ_discrete}
use native.Mathlib.Numerals.{add-one}
use native.Mathlib.Omega.{arith}
use lib.Dec.{eqb}
use lib.ListN.{length, get_or}
use borrow.Author.Tests.{eq-eqb, ne_eqb}
use Rattle.lists.specs.Bounded.{any_from, any, count_from}
use Rattle.lists.proofs.BoundedLaws.{count_ext, any_none}
use Rattle.lists.proofs.AnyLaws.{any_more}

-- b is one of the k first numbers of the list
abbrev pub in_first : List ℕ → ℕ → ℕ → Bool
in_first m k b = any k (λ j. eqb (get_or m j 0) b)

count_none : (p : ℕ → Bool) (a n : ℕ) → ((b : ℕ) → p b ≡ false) → count_from p a n ≡ 0
unfolding count_from
count_none p a zero h = refl
count_none p a (suc n) h = rw (h a, count_none p (suc a) n h)

-- one more passes
count_more : (p : ℕ → Bool) (x : ℕ) (n a : ℕ) → a ≤ x → x < a + n → p x ≡ false → count_from (λ b. p b || eqb x b) a n ≡ suc (count_from p a n)
unfolding count_from
count_more p x zero a low high e = absurd (omega arith)
count_more p x (suc n) a low high e = go (ℕ_discrete x a) (λ l h. count_more p x n (suc a) l h e)
  where
    q : ℕ → Bool
    q b = p b || eqb x b

    go : Dec (x ≡ a) → (suc a ≤ x → x < suc a + n → count_from (λ b. p b || eqb x b) (suc a) n ≡ suc (count_from p (suc a) n))
        → cond (p a || eqb x a) 1 0 + count_from (λ b. p b || eqb x b) (suc a) n ≡ suc (cond (p a) 1 0 + count_from p (suc a) n)
    go (yes z) ih =
        let here : p a ≡ false = ap p (sym z) ∙ e in
        let above : count_from (λ b. p b || eqb x b) (suc a) n ≡ count_from p (suc a) n =
        count_ext (λ b. p b || eqb x b) p (suc a) n (λ b l h. rw (ne_eqb x b (λ y. omega arith), or-false)) in
        rw (here, eq-eqb x a z, above) (omega arith)
    go (no z) ih = rw (ne_eqb x a z, or-false, ih (omega arith) (omega arith)) (omega arith)

pub count_distinct : (m : List ℕ) (a n : ℕ) → ((j : ℕ) → j < length m → (a ≤ get_or m j 0) × (get_or m j 0 < a + n))
    → ((i j : ℕ) → i < j → j < length m → get_or m i 0 ≢ get_or m j 0) → (k : ℕ) → k ≤ length m → count_from (in_first m k) a n ≡ k
unfolding any_from
count_distinct m a n within apart zero h = count_none (in_first m 0) a n (λ b. refl)
count_distinct m a n within apart (suc k) h =
    let x = get_or m k 0 in
    let new : in_first m k x ≡ false = any_none (λ j. eqb (get_or m j 0) x) 0 k (λ j l b. ne_eqb (get_or m j 0) x (apart j k (omega arith) h)) in
    count_ext (in_first m (suc k)) (λ b. in_first m k b || eqb x b) a n (λ b l c. (rw add-one at (any_more (λ j. eqb (get_or m j 0) b) k)))
    ∙ count_more (in_first m k) x n a (within k h).0 (within k h).1 new
    ∙ ap suc (count_distinct m a n within apart k (omega arith))
