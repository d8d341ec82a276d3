-- A loop that does one step for each number from `from` on up to n.
use mathlib.Core.Path.{◌≡◌, refl, ◌∙◌}
use Prim.Native.Nat.{ℕ, suc, ◌+◌, ◌-◌, ◌≤◌, ◌<◌}
use native.Mathlib.Numerals.{add-one}
use native.Mathlib.Omega.{arith}
use Rattle.lists.specs.Bounded.{fold}

-- what is still to be done to a gives the whole
pub record FoldedFrom {A : Type 0} (step : A → ℕ → A) (a₀ : A) (from n : ℕ) (a : A) (i : ℕ) : Type 0 where
  pub rest : fold step a₀ from (n - from) ≡ fold step a i (n - i)

less : (n i : ℕ) → i < n → n - i ≡ suc (n - (i + 1))
less n i h = omega arith

module _ {A : Type 0} {step : A → ℕ → A} {a₀ : A} {from n : ℕ} where
  pub from_start : FoldedFrom step a₀ from n a₀ from
  from_start = record { rest = refl }

  pub from_next : {a b : A} {i : ℕ} → FoldedFrom step a₀ from n a i → i < n → b ≡ step a i → FoldedFrom step a₀ from n b (i + 1)
  unfolding fold
  from_next {a} {b} {i} s h e = record { rest = s.rest ∙ rw (less n i h, add-one, e) }

  pub from_end : {a : A} {i : ℕ} → FoldedFrom step a₀ from n a i → n ≤ i → fold step a₀ from (n - from) ≡ a
  unfolding fold
  from_end {a} {i} s h = let z : n - i ≡ 0 = omega arith in s.rest ∙ rw z
