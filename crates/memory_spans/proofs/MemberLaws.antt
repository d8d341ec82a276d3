-- Being one of a list, told by what follows from it; what "one of them passes", "each of them passes" and the largest figure tell.
use mathlib.Core.Path.{◌≡◌, refl, sym, ◌∙◌}
use mathlib.Core.Bool.{Bool, true, false, cond, true≢false, false≢true}
use mathlib.Core.List.{List, [], ◌∷◌}
use Prim.Native.Nat.{ℕ, zero, suc, ◌≤◌, ◌<◌}
use native.Mathlib.Omega.{arith}
use borrow.Author.Tests.{leb-false}
use lib.Dec.{leb}
use lib.ListN.{length, get_or}
use Rattle.memory_spans.specs.declared.Span.{Span}
use Rattle.memory_spans.specs.Span.{none, any_of, all_of, most_of}

pub record In (x : Span) (l : List Span) : Type 0 where
  pub any : (p : Span → Bool) → p x ≡ true → any_of p l ≡ true
  pub all : (p : Span → Bool) → all_of p l ≡ true → p x ≡ true
  pub most : (f : Span → ℕ) → f x ≤ most_of f l

all_cons : (p : Span → Bool) (x : Span) (l : List Span) → all_of p (x ∷ l) ≡ true → (p x ≡ true) × (all_of p l ≡ true)
unfolding all_of
all_cons p x l e = go (p x) refl e
  where
    go : (t : Bool) → p x ≡ t → cond t (all_of p l) false ≡ true → (p x ≡ true) × (all_of p l ≡ true)
    go true q f = (q, f)
    go false q f = absurd (false≢true f)

any_later : (p : Span → Bool) (x : Span) (l : List Span) → any_of p l ≡ true → any_of p (x ∷ l) ≡ true
unfolding any_of
any_later p x l e = go (p x)
  where
    go : (t : Bool) → cond t true (any_of p l) ≡ true
    go true = refl
    go false = e

pub in_first_lem : (x : Span) (l : List Span) → In x (x ∷ l)
unfolding any_of most_of
in_first_lem x l = record { any = λ p e. rw e; all = λ p e. (all_cons p x l e).0; most = λ f. omega arith }

pub in_later : (x y : Span) (l : List Span) → In x l → In x (y ∷ l)
unfolding most_of
in_later x y l i = record { any = λ p e. any_later p y l (i.any p e); all = λ p e. i.all p (all_cons p y l e).1; most = λ f. omega (arith, i.most f) }

-- the span at a place is one of them
pub in_at : (l : List Span) (i : ℕ) → i < length l → In (get_or l i none) l
in_at [] i h = absurd (omega arith)
in_at (x ∷ l) zero h = in_first_lem x l
in_at (x ∷ l) (suc i) h = in_later (get_or l i none) x l (in_at l i (omega arith))

-- one of them passes: which
pub record Hit (p : Span → Bool) (l : List Span) : Type 0 where
  pub it : Span
  pub among : In it l
  pub passes : p it ≡ true

pub any_true : (p : Span → Bool) (l : List Span) → any_of p l ≡ true → Hit p l
unfolding any_of
any_true p [] e = absurd (false≢true e)
any_true p (x ∷ l) e = go (p x) refl e (any_true p l)
  where
    go : (t : Bool) → p x ≡ t → cond t true (any_of p l) ≡ true → (any_of p l ≡ true → Hit p l) → Hit p (x ∷ l)
    go true q f ih = record { it = x; among = in_first_lem x l; passes = q }
    go false q f ih = let h = ih f in record { it = h.it; among = in_later h.it x l h.among; passes = h.passes }

pub any_false : (p : Span → Bool) (l : List Span) → any_of p l ≡ false → (x : Span) → In x l → p x ≡ false
any_false p l e x i = go (p x) refl
  where
    go : (t : Bool) → p x ≡ t → p x ≡ false
    go false q = q
    go true q = absurd (true≢false (sym (i.any p q) ∙ e))

pub any_none : (p : Span → Bool) (l : List Span) → ((x : Span) → In x l → p x ≡ false) → any_of p l ≡ false
any_none p l h = go (any_of p l) refl
  where
    go : (t : Bool) → any_of p l ≡ t → any_of p l ≡ false
    go false q = q
    go true q = let m = any_true p l q in absurd (false≢true (sym (h m.it m.among) ∙ m.passes))

pub all_intro : (p : Span → Bool) (l : List Span) → ((x : Span) → In x l → p x ≡ true) → all_of p l ≡ true
unfolding all_of
all_intro p [] h = refl
all_intro p (x ∷ l) h = rw (h x (in_first_lem x l)) (all_intro p l (λ y i. h y (in_later y x l i)))

-- a figure that is not above the largest is not above one of them
pub most_hit : (f : Span → ℕ) (l : List Span) (k : ℕ) → 0 < k → k ≤ most_of f l → Hit (λ x. leb k (f x)) l
unfolding most_of
most_hit f [] k a b = absurd (omega arith)
most_hit f (x ∷ l) k a b = go (leb k (f x)) refl (most_hit f l k a)
  where
    go : (t : Bool) → leb k (f x) ≡ t → (k ≤ most_of f l → Hit (λ x. leb k (f x)) l) → Hit (λ x. leb k (f x)) (x ∷ l)
    go true q ih = record { it = x; among = in_first_lem x l; passes = q }
    go false q ih = let h = ih (omega (arith, leb-false k (f x) q)) in record { it = h.it; among = in_later h.it x l h.among; passes = h.passes }
