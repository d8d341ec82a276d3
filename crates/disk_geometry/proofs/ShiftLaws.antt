-- Shifts as products and quotients: one law over any shift, and the shift of a lawful geometry, whose R is 2 ^ BSH and
-- whose BLM is R - 1.
use mathlib.Core.Path.{◌≡◌, refl, sym, ap, ◌∙◌}
use mathlib.Core.Bool.{true}
use mathlib.Core.List.{List, [], ◌∷◌, map}
use mathlib.Core.Logic.{◌⊎◌, inl, inr}
use Prim.Native.Nat.{ℕ, ◌-◌, ◌*◌, ◌/◌, ◌%◌, ◌^◌, ◌<◌}
use native.Mathlib.Nat.{mod-eq_of_lt}
use lib.Bits.{bit_and, and_mask}
use Rattle.disk_geometry.specs.declared.Geometry.{Geometry}
use Rattle.disk_geometry.specs.Geometry.{geometry_of, lawful, records}
use Rattle.disk_geometry.specs.Shift.{bsh, blm}
use Rattle.disk_geometry.proofs.GeometryLaws.{bounds}

-- ---- any shift
-- The code's `x << s` is the product by r where no bit is lost, `x >> s` is the quotient, and `x & m` is the remainder.
pub record ByShift (s r m : ℕ) : Type 0 where
  pub product : (x : ℕ) → x * r < 2 ^ 64 → (x * 2 ^ s) % 2 ^ 64 ≡ x * r
  pub quotient : (x : ℕ) → x / 2 ^ s ≡ x / r
  pub remainder : (x : ℕ) → bit_and x m ≡ x % r

pub by_shift : (s r m : ℕ) → r ≡ 2 ^ s → m ≡ r - 1 → ByShift s r m
by_shift s r m power mask =
    record {
      product = λ x h. ap (λ (y : ℕ). (x * y) % 2 ^ 64) (sym power) ∙ mod-eq_of_lt h;
      quotient = λ x. ap (λ (y : ℕ). x / y) (sym power);
      remainder = λ x. rw (mask, power) (and_mask x s);
    }

-- ---- the block's shift
-- What the rows say of R: it is 2 ^ BSH, and BLM is "Anzahl der Sätze/Block minus 1".
table_fits : (g : Geometry) → (g.block_bytes ≡ 1024) ⊎ ((g.block_bytes ≡ 2048) ⊎ (g.block_bytes ≡ 4096)) → (records g ≡ 2 ^ bsh g) × (blm g ≡ records g - 1)
unfolding bsh blm
table_fits g (inl e) = rw e (refl, refl)
table_fits g (inr (inl e)) = rw e (refl, refl)
table_fits g (inr (inr e)) = rw e (refl, refl)

pub block_shift : (g : Geometry) → lawful g ≡ true → ByShift (bsh g) (records g) (blm g)
block_shift g good =
    let fits = table_fits g (bounds g good).block_sizes in
    by_shift (bsh g) (records g) (blm g) fits.0 fits.1

-- ---- the table, evaluated
-- the row of a block size: BLS, BSH, BLM
abbrev row : ℕ → List ℕ
row b = let g : Geometry = geometry_of b 40 1 in b ∷ bsh g ∷ blm g ∷ []

pub tabelle_13 : map row (1024 ∷ 2048 ∷ 4096 ∷ []) ≡ (1024 ∷ 3 ∷ 7 ∷ []) ∷ (2048 ∷ 4 ∷ 15 ∷ []) ∷ (4096 ∷ 5 ∷ 31 ∷ []) ∷ []
unfolding bsh blm
tabelle_13 = refl
