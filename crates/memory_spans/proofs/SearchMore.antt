-- Further laws of the bounded searches: a search for either of two things, and a run.
use mathlib.Core.Path.{◌≡◌, refl, ◌∙◌}
use mathlib.Core.Bool.{Bool, true, false, cond}
use Prim.Native.Nat.{ℕ, zero, suc, ◌+◌, ◌-◌, ◌≤◌, ◌<◌}
use native.Mathlib.Decide.{ℕ_discrete}
use native.Mathlib.Omega.{arith}
use borrow.Author.Tests.{ltb-true, ltb-false}
use lib.Dec.{ltb}
use Rattle.lists.specs.Bounded.{low_from}
use Rattle.lists.proofs.BoundedLaws.{Low, low_le, low_hit, low_miss, low_no, low_is}
use Rattle.memory_spans.specs.Room.{run}

-- a search for q or p, where q is first met at f, is a search for p below f
pub low_or : (p q t : ℕ → Bool) (i e f : ℕ)
    → ((m : ℕ) → t m ≡ cond (q m) true (p m))
    → i ≤ f
    → f ≤ e
    → ((m : ℕ) → i ≤ m → m < f → q m ≡ false)
    → (f < e → q f ≡ true)
    → low_from t i (e - i) ≡ low_from p i (f - i)
low_or p q t i e f is a b clear hit = go (ltb (low_from p i (f - i)) f) refl
  where
    le : low_from p i (f - i) ≤ f
    le = omega (arith, low_le p i (f - i))

    none : (m : ℕ) → i ≤ m → m < f → p m ≡ false → t m ≡ false
    none m x y z = is m ∙ rw (clear m x y, z)

    last : (x : Bool) → ltb f e ≡ x → low_from p i (f - i) ≡ f → ((m : ℕ) → i ≤ m → m < f → t m ≡ false) → low_from t i (e - i) ≡ low_from p i (f - i)
    last true u v w =
        let h : f < e = ltb-true f e u in
        low_is t i (e - i) (low_from p i (f - i))
        (record { from = omega arith; below = omega arith; passes = rw v (is f ∙ rw (hit h)); first = λ m x y. w m x (omega arith) })
    last false u v w =
        let h : f ≡ e = omega (arith, ltb-false f e u) in
        low_no t i (e - i) (λ m x y. w m x (omega arith)) ∙ omega arith

    go : (x : Bool) → ltb (low_from p i (f - i)) f ≡ x → low_from t i (e - i) ≡ low_from p i (f - i)
    go true u =
        let h : low_from p i (f - i) < f = ltb-true (low_from p i (f - i)) f u in
        let l : Low p i (f - i) (low_from p i (f - i)) = low_hit p i (f - i) (low_from p i (f - i)) refl (omega arith) in
        low_is t i (e - i) (low_from p i (f - i))
        (record {
          from = l.from;
          below = omega arith;
          passes = is (low_from p i (f - i)) ∙ rw (clear (low_from p i (f - i)) l.from h, l.passes);
          first = λ m x y. none m x (omega arith) (l.first m x y);
        })
    go false u =
        let h : f ≤ low_from p i (f - i) = ltb-false (low_from p i (f - i)) f u in
        last (ltb f e) refl (omega (arith, le)) (λ m x y. none m x y (low_miss p i (f - i) (omega arith) m x (omega arith)))

-- ---- a run
pub run_is : (p : ℕ → Bool) (i k r : ℕ)
    → r ≤ k
    → ((m : ℕ) → i ≤ m → m < i + r → p m ≡ true)
    → (r < k → p (i + r) ≡ false)
    → run p i k ≡ r
unfolding run
run_is p i zero r a h s = omega arith
run_is p i (suc k) zero a h s = let z : i + 0 ≡ i = omega arith in let e : p i ≡ false = rw z at (s (omega arith)) in rw e
run_is p i (suc k) (suc r) a h s =
    let z : i + suc r ≡ suc i + r = omega arith in
    rw (h i (omega arith) (omega arith), run_is p (suc i) k r (omega arith) (λ m x y. h m (omega arith) (omega arith)) (λ x. rw z at (s (omega arith))))

pub run_le : (p : ℕ → Bool) (i k : ℕ) → run p i k ≤ k
unfolding run
run_le p i zero = omega arith
run_le p i (suc k) = go (p i) (run_le p (suc i) k)
  where
    go : (t : Bool) → run p (suc i) k ≤ k → cond t (suc (run p (suc i) k)) 0 ≤ suc k
    go true h = omega arith
    go false h = omega arith

pub run_passes : (p : ℕ → Bool) (i k m : ℕ) → i ≤ m → m < i + run p i k → p m ≡ true
unfolding run
run_passes p i zero m a b = absurd (omega arith)
run_passes p i (suc k) m a b = go (p i) refl b (ℕ_discrete i m) (λ x y. run_passes p (suc i) k m x y)
  where
    go : (t : Bool) → p i ≡ t → m < i + cond t (suc (run p (suc i) k)) 0 → Dec (i ≡ m) → (suc i ≤ m → m < suc i + run p (suc i) k → p m ≡ true) → p m ≡ true
    go true e h (yes z) ih = rw (← z) e
    go true e h (no z) ih = ih (omega arith) (omega arith)
    go false e h d ih = absurd (omega arith)

-- a run is at least as long as what passes
pub run_more : (p : ℕ → Bool) (i k r : ℕ) → r ≤ k → ((m : ℕ) → i ≤ m → m < i + r → p m ≡ true) → r ≤ run p i k
unfolding run
run_more p i k zero a h = omega arith
run_more p i zero (suc r) a h = absurd (omega arith)
run_more p i (suc k) (suc r) a h =
    rw (h i (omega arith) (omega arith)) (let ih = run_more p (suc i) k r (omega arith) (λ m x y. h m (omega arith) (omega arith)) in omega arith)
