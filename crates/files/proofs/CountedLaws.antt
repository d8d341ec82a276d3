-- A loop that counts: what is counted so far and what is still to be counted give the whole.
use mathlib.Core.Path.{◌≡◌}
use mathlib.Core.Bool.{Bool, cond}
use Prim.Native.Nat.{ℕ, suc, ◌+◌, ◌-◌, ◌≤◌, ◌<◌}
use native.Mathlib.Numerals.{add-one}
use native.Mathlib.Omega.{arith}
use Rattle.lists.specs.Bounded.{count_from}

less : (n i : ℕ) → i < n → n - i ≡ suc (n - (i + 1))
less n i h = omega arith

pub record Counted (p : ℕ → Bool) (n m i : ℕ) : Type 0 where
  pub rest : m + count_from p i (n - i) ≡ count_from p 0 n

module _ {p : ℕ → Bool} {n : ℕ} where
  pub counted_start : Counted p n 0 0
  counted_start = record { rest = let z : n - 0 ≡ n = omega arith in rw z (omega arith) }

  pub counted_next : {m k i : ℕ} → Counted p n m i → i < n → k ≡ cond (p i) 1 0 → Counted p n (m + k) (i + 1)
  unfolding count_from
  counted_next {m} {k} {i} s h e =
      let a : count_from p i (n - i) ≡ k + count_from p (i + 1) (n - (i + 1)) = rw (less n i h, add-one, e) in
      record { rest = let r = s.rest in omega arith }

  pub counted_end : {m i : ℕ} → Counted p n m i → n ≤ i → m ≡ count_from p 0 n
  unfolding count_from
  counted_end {m} {i} s h =
      let z : n - i ≡ 0 = omega arith in
      let a : count_from p i (n - i) ≡ 0 = rw z in
      let r = s.rest in omega arith
