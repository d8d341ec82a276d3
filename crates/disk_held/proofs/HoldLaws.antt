-- What holding and releasing a block does to each block: "the state doesn't hold it". Nobody above opens the bits.
use mathlib.Core.Path.{◌≡◌, refl, sym, ap, ◌∙◌}
use mathlib.Core.Bool.{true, false, cond, or-true, or-false, and-true, and-false}
use mathlib.Core.List.{List}
use Prim.Native.Nat.{ℕ, zero, suc, ◌+◌, ◌*◌, ◌/◌, ◌%◌, ◌^◌, ◌<◌}
use native.Mathlib.Decide.{ℕ_discrete}
use native.Mathlib.Omega.{arith}
use borrow.Author.Tests.{eq-eqb, ne_eqb}
use lib.Dec.{eqb}
use lib.ListN.{length, get_or, set, length-set}
use lib.Seq.{get_or-set_same, get_or-set_other}
use Rattle.disk_held.specs.Held.{room, digit, holds, hold, release, HoldSays, ReleaseSays}
use Rattle.disk_held.proofs.Bits.{set_bit_same, set_bit_other, clear_bit_same, clear_bit_other}

pub length_hold : (held : List ℕ) (b : ℕ) → length (hold held b) ≡ length held
unfolding hold
length_hold held b = length-set held (b / 64) _

pub length_release : (held : List ℕ) (b : ℕ) → length (release held b) ≡ length held
unfolding release
length_release held b = length-set held (b / 64) _

-- the digit of a block is 0 or 1, as the test says
pub digit_lt : (held : List ℕ) (b : ℕ) → digit held b < 2
unfolding digit
digit_lt held b = omega arith

-- the blocks of word q are its bits
pub digit_of_lem : (held : List ℕ) (q j : ℕ) → j < 64 → digit held (64 * q + j) ≡ get_or held q 0 / 2 ^ j % 2
unfolding digit
digit_of_lem held q j h =
    let y : (64 * q + j) / 64 ≡ q = omega arith in
    let z : (64 * q + j) % 64 ≡ j = omega arith in
    rw (y, z)

eqb_one : (d : ℕ) → d < 2 → cond (eqb d 1) 1 0 ≡ d
eqb_one zero h = refl
eqb_one (suc zero) h = refl
eqb_one (suc (suc d)) h = absurd (omega arith)

pub digit_holds : (held : List ℕ) (b : ℕ) → cond (holds held b) 1 0 ≡ digit held b
unfolding holds
digit_holds held b = eqb_one (digit held b) (digit_lt held b)

-- b's word becomes w, which differs in b's bit alone: the other blocks stay
module _ (held : List ℕ) (b : ℕ) (low : b < room held) (w : ℕ) where
  digit_set_same : digit (set held (b / 64) w) b ≡ w / 2 ^ (b % 64) % 2
  unfolding digit
  digit_set_same = ap (λ (x : ℕ). x / 2 ^ (b % 64) % 2) (get_or-set_same held (b / 64) w 0 (omega arith))

  digit_set_other : ((j : ℕ) → (b % 64 ≡ j → ⊥) → w / 2 ^ j % 2 ≡ get_or held (b / 64) 0 / 2 ^ j % 2)
      → (c : ℕ) → (c ≡ b → ⊥) → digit (set held (b / 64) w) c ≡ digit held c
  unfolding digit
  digit_set_other same c n = elim (ℕ_discrete (c / 64) (b / 64)) [
    | yes e ↦
        ap (λ (x : ℕ). get_or (set held (b / 64) w) x 0 / 2 ^ (c % 64) % 2) e
        ∙ ap (λ (x : ℕ). x / 2 ^ (c % 64) % 2) (get_or-set_same held (b / 64) w 0 (omega arith))
        ∙ same (c % 64) (omega arith)
        ∙ ap (λ (x : ℕ). get_or held x 0 / 2 ^ (c % 64) % 2) (sym e)
    | no m ↦ ap (λ (x : ℕ). x / 2 ^ (c % 64) % 2) (get_or-set_other held (b / 64) (c / 64) w 0 m)
  ]

module _ (held : List ℕ) (b : ℕ) (low : b < room held) where
  pub holds_hold_same : holds (hold held b) b ≡ true
  unfolding holds hold
  holds_hold_same = ap (λ (x : ℕ). eqb x 1) (digit_set_same held b low _ ∙ set_bit_same (get_or held (b / 64) 0) (b % 64))

  pub holds_hold_other : (c : ℕ) → (c ≡ b → ⊥) → holds (hold held b) c ≡ holds held c
  unfolding holds hold
  holds_hold_other c n = ap (λ (x : ℕ). eqb x 1) (digit_set_other held b low _ (set_bit_other (get_or held (b / 64) 0) (b % 64)) c n)

  pub holds_release_same : holds (release held b) b ≡ false
  unfolding holds release
  holds_release_same = ap (λ (x : ℕ). eqb x 1) (digit_set_same held b low _ ∙ clear_bit_same (get_or held (b / 64) 0) (b % 64))

  pub holds_release_other : (c : ℕ) → (c ≡ b → ⊥) → holds (release held b) c ≡ holds held c
  unfolding holds release
  holds_release_other c n = ap (λ (x : ℕ). eqb x 1) (digit_set_other held b low _ (clear_bit_other (get_or held (b / 64) 0) (b % 64)) c n)

-- ---- so the two sentences hold
pub hold_says : HoldSays
hold_says held b low c = elim (ℕ_discrete c b) [
  | yes e ↦ rw (e, holds_hold_same held b low, eq-eqb b b refl, or-true)
  | no n ↦ rw (holds_hold_other held b low c n, ne_eqb c b n, or-false)
]

pub release_says : ReleaseSays
release_says held b low c = elim (ℕ_discrete c b) [
  | yes e ↦ rw (e, holds_release_same held b low, eq-eqb b b refl, and-false)
  | no n ↦ rw (holds_release_other held b low c n, ne_eqb c b n, and-true)
]
