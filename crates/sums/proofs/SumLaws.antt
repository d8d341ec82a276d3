-- Laws of sums: term by term, in two parts, in equal pieces, in the other order, and where one term counts alone; a loop that adds
-- up; a count as a sum of ones, and how many numbers are below another.
use mathlib.Core.Path.{◌≡◌, refl, sym, ap, ◌∙◌}
use mathlib.Core.Bool.{Bool, true, false, cond}
use mathlib.Core.Logic.{◌≢◌}
use Prim.Native.Nat.{ℕ, zero, suc, ◌+◌, ◌-◌, ◌*◌, ◌≤◌, ◌<◌, min}
use native.Mathlib.Decide.{ℕ_discrete}
use native.Mathlib.Numerals.{add-one}
use native.Mathlib.Omega.{arith}
use borrow.Author.Tests.{ltb-true, ltb-false}
use lib.Dec.{ltb}
use Rattle.lists.specs.Bounded.{count_from}
use Rattle.sums.specs.Sum.{sum_from, sum}

pub sum_ext : (f h : ℕ → ℕ) (i k : ℕ) → ((m : ℕ) → i ≤ m → m < i + k → f m ≡ h m) → sum_from f i k ≡ sum_from h i k
unfolding sum_from
sum_ext f h i zero e = refl
sum_ext f h i (suc k) e = rw (e i (omega arith) (omega arith), sum_ext f h (suc i) k (λ m a b. e m (omega arith) (omega arith)))

pub sum_le : (f h : ℕ → ℕ) (i k : ℕ) → ((m : ℕ) → i ≤ m → m < i + k → f m ≤ h m) → sum_from f i k ≤ sum_from h i k
unfolding sum_from
sum_le f h i zero e = omega arith
sum_le f h i (suc k) e = omega (arith, e i (omega arith) (omega arith), sum_le f h (suc i) k (λ m a b. e m (omega arith) (omega arith)))

-- no term is above c
pub sum_most : (f : ℕ → ℕ) (c i k : ℕ) → ((m : ℕ) → i ≤ m → m < i + k → f m ≤ c) → sum_from f i k ≤ k * c
unfolding sum_from
sum_most f c i zero e = omega arith
sum_most f c i (suc k) e =
    let z : suc k * c ≡ c + k * c = omega arith in
    rw z (omega (arith, e i (omega arith) (omega arith), sum_most f c (suc i) k (λ m a b. e m (omega arith) (omega arith))))

pub sum_zero : (f : ℕ → ℕ) (i k : ℕ) → ((m : ℕ) → i ≤ m → m < i + k → f m ≡ 0) → sum_from f i k ≡ 0
unfolding sum_from
sum_zero f i zero e = refl
sum_zero f i (suc k) e = omega (arith, e i (omega arith) (omega arith), sum_zero f (suc i) k (λ m a b. e m (omega arith) (omega arith)))

pub sum_plus : (f h : ℕ → ℕ) (i k : ℕ) → sum_from (λ m. f m + h m) i k ≡ sum_from f i k + sum_from h i k
unfolding sum_from
sum_plus f h i zero = refl
sum_plus f h i (suc k) = omega (arith, sum_plus f h (suc i) k)

pub sum_times : (f : ℕ → ℕ) (r i k : ℕ) → sum_from (λ m. f m * r) i k ≡ sum_from f i k * r
unfolding sum_from
sum_times f r i zero = omega arith
sum_times f r i (suc k) = let ih = sum_times f r (suc i) k in omega arith

-- in the other order
pub sum_swap : (f : ℕ → ℕ → ℕ) (i k j n : ℕ) → sum_from (λ x. sum_from (f x) j n) i k ≡ sum_from (λ y. sum_from (λ x. f x y) i k) j n
unfolding sum_from
sum_swap f i zero j n = sym (sum_zero (λ y. 0) j n (λ m a b. refl))
sum_swap f i (suc k) j n =
    ap (λ (s : ℕ). sum_from (f i) j n + s) (sum_swap f (suc i) k j n)
    ∙ sym (sum_plus (f i) (λ y. sum_from (λ x. f x y) (suc i) k) j n)

-- in two parts, and in n pieces of r
pub sum_add : (f : ℕ → ℕ) (i k m : ℕ) → sum_from f i (k + m) ≡ sum_from f i k + sum_from f (i + k) m
unfolding sum_from
sum_add f i zero m =
    let y : 0 + m ≡ m = omega arith in
    let z : i + 0 ≡ i = omega arith in
    rw (y, z) (omega arith)
sum_add f i (suc k) m =
    let y : suc k + m ≡ suc (k + m) = omega arith in
    let z : i + suc k ≡ suc i + k = omega arith in
    rw (y, z, sum_add f (suc i) k m) (omega arith)

pub sum_pieces : (f : ℕ → ℕ) (a r i n : ℕ) → sum_from (λ p. sum_from f (a + p * r) r) i n ≡ sum_from f (a + i * r) (n * r)
unfolding sum_from
sum_pieces f a r i zero = let z : 0 * r ≡ 0 = omega arith in rw z
sum_pieces f a r i (suc n) =
    let y : suc n * r ≡ r + n * r = omega arith in
    let z : a + i * r + r ≡ a + suc i * r = omega arith in
    rw (y, sum_add f (a + i * r) r (n * r), z, sum_pieces f a r (suc i) n)

-- one term counts, and all others are 0
pub sum_one : (f : ℕ → ℕ) (i k x : ℕ) → i ≤ x → x < i + k → ((m : ℕ) → i ≤ m → m < i + k → m ≢ x → f m ≡ 0) → sum_from f i k ≡ f x
unfolding sum_from
sum_one f i zero x a b e = absurd (omega arith)
sum_one f i (suc k) x a b e = go (ℕ_discrete i x) (λ h. sum_one f (suc i) k x h (omega arith) (λ m c d n. e m (omega arith) (omega arith) n))
  where
    go : Dec (i ≡ x) → (suc i ≤ x → sum_from f (suc i) k ≡ f x) → f i + sum_from f (suc i) k ≡ f x
    go (yes z) ih =
        let s : sum_from f (suc i) k ≡ 0 = sum_zero f (suc i) k (λ m c d. e m (omega arith) (omega arith) (omega arith)) in
        rw (s, z) (omega arith)
    go (no n) ih =
        let o : f i ≡ 0 = e i (omega arith) (omega arith) n in
        let s : sum_from f (suc i) k ≡ f x = ih (omega arith) in
        omega arith

-- ---- a loop that adds up: what is added so far and what is still to be added give the sum
pub record Summed (f : ℕ → ℕ) (n m i : ℕ) : Type 0 where
  pub rest : m + sum_from f i (n - i) ≡ sum n f

less : (n i : ℕ) → i < n → n - i ≡ suc (n - (i + 1))
less n i h = omega arith

module _ {f : ℕ → ℕ} {n : ℕ} where
  pub summed_start : Summed f n 0 0
  summed_start = record { rest = let z : n - 0 ≡ n = omega arith in rw z (omega arith) }

  pub summed_next : {m k i : ℕ} → Summed f n m i → i < n → k ≡ m + f i → Summed f n k (i + 1)
  unfolding sum_from
  summed_next {m} {k} {i} s h e =
      let a : sum_from f i (n - i) ≡ f i + sum_from f (i + 1) (n - (i + 1)) = rw (less n i h, add-one) in
      record { rest = let r = s.rest in omega arith }

  pub summed_end : {m i : ℕ} → Summed f n m i → n ≤ i → m ≡ sum n f
  unfolding sum_from
  summed_end {m} {i} s h =
      let z : n - i ≡ 0 = omega arith in
      let a : sum_from f i (n - i) ≡ 0 = rw z in
      let r = s.rest in omega arith

-- ---- counts
pub count_sum : (p : ℕ → Bool) (i k : ℕ) → count_from p i k ≡ sum_from (λ m. cond (p m) 1 0) i k
unfolding count_from sum_from
count_sum p i zero = refl
count_sum p i (suc k) = rw (count_sum p (suc i) k)

-- those below t
pub count_below : (t i k : ℕ) → count_from (λ m. ltb m t) i k ≡ min (t - i) k
unfolding count_from
count_below t i zero = omega arith
count_below t i (suc k) = go (ltb i t) refl (count_below t (suc i) k)
  where
    go : (x : Bool) → ltb i t ≡ x → count_from (λ m. ltb m t) (suc i) k ≡ min (t - suc i) k → cond x 1 0 + count_from (λ m. ltb m t) (suc i) k ≡ min (t - i) (suc k)
    go true e ih = let h = ltb-true i t e in omega arith
    go false e ih = let h = ltb-false i t e in omega arith
