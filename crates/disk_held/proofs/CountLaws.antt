-- Counts: laws of "how many", and how the ones of the words count the held blocks.
use mathlib.Core.Path.{◌≡◌, refl, sym, ap, ap₂, ◌∙◌}
use mathlib.Core.Bool.{Bool, true, false, not, cond}
use mathlib.Core.List.{List}
use Prim.Native.Nat.{ℕ, zero, suc, ◌+◌, ◌-◌, ◌*◌, ◌%◌, ◌^◌, ◌≤◌}
use native.Mathlib.Nat.{zero-add}
use native.Mathlib.Omega.{arith}
use lib.Count.{ones}
use lib.ListN.{get_or}
use Rattle.lists.specs.Bounded.{low_from, count_from}
use Rattle.disk_held.specs.Held.{holds, is_free, free_count}
use Rattle.disk_held.proofs.Bits.{ones_none, ones_more}
use Rattle.disk_held.proofs.HoldLaws.{digit_of_lem, digit_holds}

-- ---- a count in two parts, by its last one, of those that do not pass
module _ (p : ℕ → Bool) where
  pub count_add : (i k m : ℕ) → count_from p i (k + m) ≡ count_from p i k + count_from p (i + k) m
  unfolding count_from
  count_add i zero m =
      let y : 0 + m ≡ m = omega arith in
      let z : i + 0 ≡ i = omega arith in
      rw (y, z) (omega arith)
  count_add i (suc k) m =
      let y : suc k + m ≡ suc (k + m) = omega arith in
      let z : i + suc k ≡ suc i + k = omega arith in
      rw (y, z, count_add (suc i) k m) (omega arith)

  pub count_last : (i k : ℕ) → count_from p i (suc k) ≡ count_from p i k + cond (p (i + k)) 1 0
  unfolding count_from
  count_last i k =
      let y : suc k ≡ k + 1 = omega arith in
      ap (count_from p i) y ∙ count_add i k 1 ∙ omega arith

  pub count_not : (i k : ℕ) → count_from (λ b. not (p b)) i k + count_from p i k ≡ k
  unfolding count_from
  count_not i zero = refl
  count_not i (suc k) = go (p i) (count_not (suc i) k)
    where
      go : (t : Bool) → count_from (λ b. not (p b)) (suc i) k + count_from p (suc i) k ≡ k
          → cond (not t) 1 0 + count_from (λ b. not (p b)) (suc i) k + (cond t 1 0 + count_from p (suc i) k) ≡ suc k
      go true h = omega arith
      go false h = omega arith

  -- none passes exactly when the search finds none
  pub count_none : (i k : ℕ) → count_from p i k ≡ 0 → low_from p i k ≡ i + k
  unfolding count_from low_from
  count_none i zero e = omega arith
  count_none i (suc k) e = go (p i) e (count_none (suc i) k)
    where
      go : (t : Bool) → cond t 1 0 + count_from p (suc i) k ≡ 0 → (count_from p (suc i) k ≡ 0 → low_from p (suc i) k ≡ suc i + k)
          → cond t i (low_from p (suc i) k) ≡ i + suc k
      go true f ih = absurd (omega arith)
      go false f ih = ih (omega arith) ∙ omega arith

  pub none_count : (i k : ℕ) → i + k ≤ low_from p i k → count_from p i k ≡ 0
  unfolding count_from low_from
  none_count i zero e = refl
  none_count i (suc k) e = go (p i) e (none_count (suc i) k)
    where
      go : (t : Bool) → i + suc k ≤ cond t i (low_from p (suc i) k) → (suc i + k ≤ low_from p (suc i) k → count_from p (suc i) k ≡ 0)
          → cond t 1 0 + count_from p (suc i) k ≡ 0
      go true f ih = absurd (omega arith)
      go false f ih = zero-add (count_from p (suc i) k) ∙ ih (omega arith)

-- ---- the held blocks of a word, and of the words before it
module _ (held : List ℕ) where
  held_ones : (q k : ℕ) → k ≤ 64 → count_from (holds held) (64 * q) k ≡ ones (get_or held q 0 % 2 ^ k)
  unfolding count_from
  held_ones q zero h = sym (ones_none (get_or held q 0))
  held_ones q (suc k) h =
      count_last (holds held) (64 * q) k
      ∙ ap₂ (λ (x y : ℕ). x + y) (held_ones q k (omega arith)) (digit_holds held (64 * q + k) ∙ digit_of_lem held q k (omega arith))
      ∙ sym (ones_more (get_or held q 0) k)

  pub held_word : (q k : ℕ) → k ≤ 64 → count_from (holds held) 0 (64 * q + k) ≡ count_from (holds held) 0 (64 * q) + ones (get_or held q 0 % 2 ^ k)
  held_word q k h =
      let z : 0 + 64 * q ≡ 64 * q = omega arith in
      count_add (holds held) 0 (64 * q) k ∙ rw (z, held_ones q k h)

-- ---- what is held below t and below d leaves what is free from d on
pub record HeldAndFree (held : List ℕ) (d t : ℕ) : Type 0 where
  pub rises : count_from (holds held) 0 d ≤ count_from (holds held) 0 t
  pub whole : free_count held d t + count_from (holds held) 0 t ≡ t - d + count_from (holds held) 0 d

pub held_and_free : (held : List ℕ) (d t : ℕ) → d ≤ t → HeldAndFree held d t
unfolding free_count
held_and_free held d t h =
    let y : d + (t - d) ≡ t = omega arith in
    let z : 0 + d ≡ d = omega arith in
    let e : count_from (holds held) 0 t ≡ count_from (holds held) 0 d + count_from (holds held) d (t - d) = rw (y, z) at (count_add (holds held) 0 d (t - d)) in
    let f : count_from (is_free held) d (t - d) + count_from (holds held) d (t - d) ≡ t - d = count_not (holds held) d (t - d) in
    record { rises = omega arith; whole = omega arith }
