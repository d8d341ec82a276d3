-- The bits of a number w: bit k is w / 2 ^ k % 2. How each of them stands after one is set or cleared, and which are
-- counted by `ones`.
use mathlib.Core.Path.{◌≡◌, refl, sym, ap, ◌∙◌}
use Prim.Native.Nat.{ℕ, zero, suc, ◌+◌, ◌-◌, ◌*◌, ◌/◌, ◌%◌, ◌^◌, ◌≤◌, ◌<◌}
use native.Mathlib.Nat.{one-mul, mod-lt, mod-one, add_comm}
use native.Mathlib.Numerals.{add-one}
use native.Mathlib.Decide.{ℕ_discrete}
use native.Mathlib.Omega.{arith}
use lib.Bits.{bit_and, bit_or, bit_xor, or_lt, xor_lt, and_le_l}
use lib.Count.{ones, ones_cat, ones-le}
use lib.Dec.{lit<}
use lib.Pow.{pow_pos, pow-lt, mod-pow-add, mod-mod-pow, field, shl_exact}
use Rattle.std.specs.Int.{w64, bit_not}
use Rattle.std.proofs.lemmas.Nat.Bits.{bit_at_or, bit_at_xor, bit_at-pow_same, bit_at-pow_other, bit_at_ones, bit_at_clear_same, bit_at_clear_other, same_from_bits_below}

-- `1 << k` of a word of 64 bits
pub one_shifted : (k : ℕ) → k < 64 → (1 * 2 ^ k) % 2 ^ 64 ≡ 2 ^ k
one_shifted k h = shl_exact 1 k 64 (lit< tt) (omega arith) ∙ one-mul (2 ^ k)

-- ---- bit k set by `or`, and cleared by `or` and `xor`
pub set_bit_same : (w k : ℕ) → bit_or w (2 ^ k) / 2 ^ k % 2 ≡ 1
set_bit_same w k = bit_at_or w (2 ^ k) k ∙ rw (bit_at-pow_same k) (omega arith)

pub set_bit_other : (w k j : ℕ) → (k ≡ j → ⊥) → bit_or w (2 ^ k) / 2 ^ j % 2 ≡ w / 2 ^ j % 2
set_bit_other w k j h = bit_at_or w (2 ^ k) j ∙ rw (bit_at-pow_other k j (λ e. h (sym e))) (omega arith)

pub set_bit_lt : (w k : ℕ) → w < 2 ^ 64 → k < 64 → bit_or w (2 ^ k) < 2 ^ 64
set_bit_lt w k l h = or_lt 64 w (2 ^ k) l (pow-lt {i = k} {j = 64} h)

pub clear_bit_same : (w k : ℕ) → bit_xor (bit_or w (2 ^ k)) (2 ^ k) / 2 ^ k % 2 ≡ 0
clear_bit_same w k = bit_at_xor (bit_or w (2 ^ k)) (2 ^ k) k ∙ rw (set_bit_same w k, bit_at-pow_same k)

pub clear_bit_other : (w k j : ℕ) → (k ≡ j → ⊥) → bit_xor (bit_or w (2 ^ k)) (2 ^ k) / 2 ^ j % 2 ≡ w / 2 ^ j % 2
clear_bit_other w k j h =
    bit_at_xor (bit_or w (2 ^ k)) (2 ^ k) j ∙ rw (set_bit_other w k j h, bit_at-pow_other k j (λ e. h (sym e))) (omega arith)

pub clear_bit_lt : (w k : ℕ) → w < 2 ^ 64 → k < 64 → bit_xor (bit_or w (2 ^ k)) (2 ^ k) < 2 ^ 64
clear_bit_lt w k l h = xor_lt 64 (bit_or w (2 ^ k)) (2 ^ k) (set_bit_lt w k l h) (pow-lt {i = k} {j = 64} h)

-- and cleared by `w & !(1 << k)`, which is the same word
pub clear_bit : (w k : ℕ) → w < 2 ^ 64 → k < 64 → bit_and w (bit_not w64 (1 * 2 ^ k % 2 ^ 64)) ≡ bit_xor (bit_or w (2 ^ k)) (2 ^ k)
clear_bit w k l h =
    same_from_bits_below 64 _ _
    (omega (arith, and_le_l w (bit_not w64 (1 * 2 ^ k % 2 ^ 64))))
    (clear_bit_lt w k l h)
    (λ i b. elim (ℕ_discrete i k) [
      | yes e ↦ rw e (bit_at_clear_same w64 w k h ∙ sym (clear_bit_same w k))
      | no n ↦ bit_at_clear_other w64 w k h i b n ∙ sym (clear_bit_other w k i (λ e. n (sym e)))
    ])

-- ---- the lowest k bits
pub low_bits : (w k j : ℕ) → j < k → w % 2 ^ k / 2 ^ j % 2 ≡ w / 2 ^ j % 2
low_bits w k j h =
    let i = k - suc j in
    let e : k ≡ i + 1 + j = omega arith in
    ap (λ (x : ℕ). w % 2 ^ x / 2 ^ j % 2) e
    ∙ ap (λ (x : ℕ). x % 2) (field w (i + 1) j)
    ∙ mod-mod-pow (w / 2 ^ j) i 1

-- one bit more
pub one_more_bit : (w k : ℕ) → w % 2 ^ suc k ≡ w / 2 ^ k % 2 * 2 ^ k + w % 2 ^ k
one_more_bit w k = ap (λ (x : ℕ). w % 2 ^ x) (sym (add-one k) ∙ add_comm k 1) ∙ mod-pow-add w 1 k

ones_bit : (d : ℕ) → d < 2 → ones d ≡ d
unfolding ones
ones_bit zero h = refl
ones_bit (suc zero) h = refl
ones_bit (suc (suc d)) h = absurd (omega arith)

pub ones_none : (w : ℕ) → ones (w % 2 ^ 0) ≡ 0
ones_none w = ap ones (mod-one w) ∙ ones_bit 0 (omega arith)

pub ones_more : (w k : ℕ) → ones (w % 2 ^ suc k) ≡ ones (w % 2 ^ k) + w / 2 ^ k % 2
ones_more w k =
    ap ones (one_more_bit w k)
    ∙ ones_cat k (w / 2 ^ k % 2) (w % 2 ^ k) (mod-lt w (pow_pos k))
    ∙ ap (λ (x : ℕ). x + ones (w % 2 ^ k)) (ones_bit (w / 2 ^ k % 2) (omega arith))
    ∙ add_comm (w / 2 ^ k % 2) (ones (w % 2 ^ k))

pub ones_low_le : (w k : ℕ) → ones (w % 2 ^ k) ≤ k
ones_low_le w k = ones-le k (w % 2 ^ k) (mod-lt w (pow_pos k))

-- a full word has every bit
pub full_bit : (k : ℕ) → k < 64 → 18446744073709551615 / 2 ^ k % 2 ≡ 1
full_bit k h = bit_at_ones 64 k h
