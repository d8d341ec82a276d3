-- The lowest free block and the number of free blocks, of the blocks from d to t - 1: what they tell of each block, and
-- that they depend on these blocks alone. First what lets the code pass over a full word.
use mathlib.Core.Path.{◌≡◌, refl, ap, ◌∙◌}
use mathlib.Core.Bool.{Bool, true, false, not}
use mathlib.Core.List.{List}
use Prim.Native.Nat.{ℕ, zero, suc, ◌+◌, ◌-◌, ◌/◌, ◌%◌, ◌≤◌, ◌<◌}
use native.Mathlib.Omega.{arith}
use borrow.Author.Tests.{not-true, not-false}
use lib.ListN.{get_or}
use Rattle.lists.specs.Bounded.{low_from}
use Rattle.lists.proofs.BoundedLaws.{Searched, low_le, low_hit, low_miss, low_no, low_is, low_ext, count_ext}
use Rattle.disk_held.specs.Held.{digit, holds, is_free, lowest_free, free_count}
use Rattle.disk_held.proofs.Bits.{full_bit}
use Rattle.disk_held.proofs.CountLaws.{count_none, none_count, count_not}

-- ---- passing over
pub full_word : (held : List ℕ) (b : ℕ) → get_or held (b / 64) 0 ≡ 18446744073709551615 → (m : ℕ) → m / 64 ≡ b / 64 → holds held m ≡ true
unfolding holds digit
full_word held b e m z = rw (z, e, full_bit (m % 64) (omega arith))

low_over : (p : ℕ → Bool) (i k m : ℕ) → ((j : ℕ) → i ≤ j → j < i + k → p j ≡ false) → low_from p i (k + m) ≡ low_from p (i + k) m
unfolding low_from
low_over p i zero m h =
    let y : 0 + m ≡ m = omega arith in
    let z : i + 0 ≡ i = omega arith in
    rw (y, z)
low_over p i (suc k) m h =
    let y : suc k + m ≡ suc (k + m) = omega arith in
    let z : i + suc k ≡ suc i + k = omega arith in
    rw (y, z, h i (omega arith) (omega arith)) (low_over p (suc i) k m (λ j a b. h j (omega arith) (omega arith)))

pub searched_over : {p : ℕ → Bool} {from n i : ℕ} → Searched p from n i → (j : ℕ) → i ≤ j → j ≤ n
    → ((m : ℕ) → i ≤ m → m < j → p m ≡ false) → Searched p from n j
searched_over {p} {from} {n} {i} s j a b h =
    let y : n - i ≡ (j - i) + (n - j) = omega arith in
    let z : i + (j - i) ≡ j = omega arith in
    record { rest = s.rest ∙ ap (low_from p i) y ∙ low_over p i (j - i) (n - j) (λ m c d. h m c (omega arith)) ∙ ap (λ (x : ℕ). low_from p x (n - j)) z }

-- ---- what the lowest free block is
pub record LowestFree (held : List ℕ) (d t b : ℕ) : Type 0 where
  pub from : d ≤ b
  pub below : b < t
  pub free : holds held b ≡ false
  pub first : (m : ℕ) → d ≤ m → m < b → holds held m ≡ true

module _ (held : List ℕ) (d t : ℕ) where
  pub lowest_free_is : lowest_free held d t < t → LowestFree held d t (lowest_free held d t)
  unfolding lowest_free
  lowest_free_is h =
      let l = low_hit (is_free held) d (t - d) (low_from (is_free held) d (t - d)) refl (omega arith) in
      record { from = l.from; below = h; free = not-true _ l.passes; first = λ m a b. not-false _ (l.first m a b) }

  pub is_lowest_free : (b : ℕ) → LowestFree held d t b → lowest_free held d t ≡ b
  unfolding lowest_free
  is_lowest_free b l =
      low_is (is_free held) d (t - d) b
      (record { from = l.from; below = omega (arith, l.from, l.below); passes = ap not l.free; first = λ m x y. ap not (l.first m x y) })

module _ (held : List ℕ) (d t : ℕ) (order : d ≤ t) where
  pub lowest_free_le : lowest_free held d t ≤ t
  unfolding lowest_free
  lowest_free_le = omega (arith, low_le (is_free held) d (t - d))

  -- it is t exactly when none is free
  pub lowest_free_none : lowest_free held d t ≡ t → (m : ℕ) → d ≤ m → m < t → holds held m ≡ true
  unfolding lowest_free
  lowest_free_none e m a b = not-false _ (low_miss (is_free held) d (t - d) (omega arith) m a (omega arith))

  pub none_lowest_free : ((m : ℕ) → d ≤ m → m < t → holds held m ≡ true) → lowest_free held d t ≡ t
  unfolding lowest_free
  none_lowest_free h = low_no (is_free held) d (t - d) (λ m a b. ap not (h m a (omega arith))) ∙ omega arith

  -- and exactly when none is counted
  pub free_count_none : free_count held d t ≡ 0 → lowest_free held d t ≡ t
  unfolding free_count lowest_free
  free_count_none e = count_none (is_free held) d (t - d) e ∙ omega arith

  pub none_free_count : lowest_free held d t ≡ t → free_count held d t ≡ 0
  unfolding free_count lowest_free
  none_free_count e = none_count (is_free held) d (t - d) (omega arith)

pub free_count_le : (held : List ℕ) (d t : ℕ) → free_count held d t ≤ t - d
unfolding free_count
free_count_le held d t = omega (arith, count_not (holds held) d (t - d))

-- ---- both depend on the blocks from d to t - 1 alone
module _ (held other : List ℕ) (d t : ℕ) (same : (m : ℕ) → d ≤ m → m < t → holds held m ≡ holds other m) where
  pub lowest_free_ext : lowest_free held d t ≡ lowest_free other d t
  unfolding lowest_free
  lowest_free_ext = low_ext (is_free held) (is_free other) d (t - d) (λ m a b. ap not (same m a (omega arith)))

  pub free_count_ext : free_count held d t ≡ free_count other d t
  unfolding free_count
  free_count_ext = count_ext (is_free held) (is_free other) d (t - d) (λ m a b. ap not (same m a (omega arith)))
