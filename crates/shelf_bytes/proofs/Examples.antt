-- The bytes of a shelf, evaluated: eight numbers in the seam's order, low byte first.
use mathlib.Core.Path.{◌≡◌, refl}
use mathlib.Core.List.{List, [], ◌∷◌, ◌++◌}
use Prim.Native.Nat.{ℕ}
use Rattle.numbers.specs.Numbers.{bytes_of}
use Rattle.shelf_bytes.specs.Layout.{laid, encoded}

-- the eight bytes of a number that has three
abbrev low : ℕ → ℕ → ℕ → List ℕ
low a b c = a ∷ b ∷ c ∷ 0 ∷ 0 ∷ 0 ∷ 0 ∷ 0 ∷ []

pub record Examples : Type 0 where
  pub eight_numbers : encoded (record { refused = 1; files = 2; entries = 259; records = 65540; held = 5; free = 6; waste = 7; seen = 8 })
      ≡ low 1 0 0 ++ (low 2 0 0 ++ (low 3 1 0 ++ (low 4 0 1 ++ (low 5 0 0 ++ (low 6 0 0 ++ (low 7 0 0 ++ low 8 0 0))))))

pub examples : Examples
unfolding encoded laid bytes_of
examples = record { eight_numbers = refl }
