-- Sums: f added up over the k numbers i, i + 1, .. one by one.
use Rattle.std.specs.Prelude.{ℕ, zero, suc, ◌+◌}

unfoldable pub sum_from : (ℕ → ℕ) → ℕ → ℕ → ℕ
sum_from f i zero = 0
sum_from f i (suc k) = f i + sum_from f (suc i) k

-- over the numbers below n
abbrev pub sum : ℕ → (ℕ → ℕ) → ℕ
sum n f = sum_from f 0 n
