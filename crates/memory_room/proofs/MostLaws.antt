-- Laws of the largest figure, of the numbers from i on and of a list.
use mathlib.Core.Path.{◌≡◌, refl}
use mathlib.Core.Bool.{Bool, true, false}
use mathlib.Core.List.{List, [], ◌∷◌}
use Prim.Native.Nat.{ℕ, zero, suc, ◌+◌, ◌≤◌, ◌<◌, max}
use native.Mathlib.Decide.{ℕ_discrete}
use native.Mathlib.Omega.{arith}
use borrow.Author.Tests.{leb-true, leb-false}
use lib.Dec.{leb}
use Rattle.memory_spans.specs.declared.Span.{Span}
use Rattle.memory_spans.specs.Span.{most_of}
use Rattle.memory_room.specs.Starts.{most_from}

pub most_from_le : (f : ℕ → ℕ) (i k b : ℕ) → ((m : ℕ) → i ≤ m → m < i + k → f m ≤ b) → most_from f i k ≤ b
unfolding most_from
most_from_le f i zero b h = omega arith
most_from_le f i (suc k) b h = omega (arith, h i (omega arith) (omega arith), most_from_le f (suc i) k b (λ m x y. h m (omega arith) (omega arith)))

pub most_from_at : (f : ℕ → ℕ) (i k m : ℕ) → i ≤ m → m < i + k → f m ≤ most_from f i k
unfolding most_from
most_from_at f i zero m a b = absurd (omega arith)
most_from_at f i (suc k) m a b = go (ℕ_discrete i m) (λ x y. most_from_at f (suc i) k m x y)
  where
    go : Dec (i ≡ m) → (suc i ≤ m → m < suc i + k → f m ≤ most_from f (suc i) k) → f m ≤ max (f i) (most_from f (suc i) k)
    go (yes z) ih = rw (← z) (omega arith)
    go (no z) ih = omega (arith, ih (omega arith) (omega arith))

pub most_of_le : (f : Span → ℕ) (l : List Span) (b : ℕ) → ((x : Span) → f x ≤ b) → most_of f l ≤ b
unfolding most_of
most_of_le f [] b h = omega arith
most_of_le f (x ∷ l) b h = omega (arith, h x, most_of_le f l b h)

-- the largest figure is one of them
pub record MostAt (f : ℕ → ℕ) (i k : ℕ) : Type 0 where
  pub at : ℕ
  pub from : i ≤ at
  pub below : at < i + k
  pub is : most_from f i k ≤ f at

pub most_from_hit : (f : ℕ → ℕ) (i k : ℕ) → 0 < most_from f i k → MostAt f i k
unfolding most_from
most_from_hit f i zero h = absurd (omega arith)
most_from_hit f i (suc k) h = go (leb (most_from f (suc i) k) (f i)) refl (most_from_hit f (suc i) k)
  where
    go : (t : Bool) → leb (most_from f (suc i) k) (f i) ≡ t → (0 < most_from f (suc i) k → MostAt f (suc i) k) → MostAt f i (suc k)
    go true u ih =
        let b = leb-true (most_from f (suc i) k) (f i) u in
        record { at = i; from = omega arith; below = omega arith; is = omega arith }
    go false u ih =
        let b = leb-false (most_from f (suc i) k) (f i) u in
        let m = ih (omega arith) in
        record { at = m.at; from = omega (arith, m.from); below = omega (arith, m.below); is = omega (arith, m.is) }
