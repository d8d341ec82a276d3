-- Laws of spans and of lists of them: what covering, overlapping and lying in tell, and loops over the used places.
use mathlib.Core.Path.{◌≡◌, refl, sym, ◌∙◌}
use mathlib.Core.Bool.{Bool, true, false, cond, ◌&&◌, ◌||◌}
use mathlib.Core.List.{List, [], ◌∷◌}
use Prim.Native.Nat.{ℕ, ◌+◌, ◌≤◌, ◌<◌, max, min}
use native.Mathlib.Numerals.{add-one}
use native.Mathlib.Omega.{arith}
use borrow.Author.Tests.{ltb-true, ltb-false, leb-true, lt-ltb, le-leb}
use lib.Dec.{leb, ltb}
use lib.ListN.{length, get_or, drop, drop_of_length-le}
use lib.Seq.{drop-cons}
use Rattle.std.specs.List.{list_any, list_all}
use Rattle.lists.proofs.BoolLaws.{and_parts}
use Rattle.memory_spans.specs.declared.Span.{Span}
use Rattle.memory_spans.specs.Span.{none, end, covers, overlap, lies_in, any_of, all_of, most_of}

-- ---- tests and facts
pub record Covers (s : Span) (p : ℕ) : Type 0 where
  pub from : s.start ≤ p
  pub below : p < end s

pub covers_facts : (s : Span) (p : ℕ) → covers s p ≡ true → Covers s p
unfolding covers
covers_facts s p e =
    let a = and_parts (leb s.start p) (ltb p (end s)) e in
    record { from = leb-true s.start p a.0; below = ltb-true p (end s) a.1 }

pub covers_test : (s : Span) (p : ℕ) → s.start ≤ p → p < end s → covers s p ≡ true
unfolding covers
covers_test s p a b = rw (le-leb s.start p a, lt-ltb p (end s) b)

pub covers_not : (s : Span) (p : ℕ) → (s.start ≤ p → p < end s → ⊥) → covers s p ≡ false
covers_not s p h = go (covers s p) refl
  where
    go : (t : Bool) → covers s p ≡ t → covers s p ≡ false
    go false e = e
    go true e = let f = covers_facts s p e in absurd (h f.from f.below)

pub record Overlap (a b : Span) : Type 0 where
  pub own_a : a.start < end a
  pub own_b : b.start < end b
  pub first : a.start < end b
  pub second : b.start < end a

pub overlap_facts : (a b : Span) → overlap a b ≡ true → Overlap a b
unfolding overlap
overlap_facts a b e =
    let h = ltb-true (max a.start b.start) (min (end a) (end b)) e in
    record { own_a = omega arith; own_b = omega arith; first = omega arith; second = omega arith }

pub overlap_test : (a b : Span) → Overlap a b → overlap a b ≡ true
unfolding overlap
overlap_test a b o = lt-ltb (max a.start b.start) (min (end a) (end b)) (omega (arith, o.own_a, o.own_b, o.first, o.second))

pub overlap_not : (a b : Span) → (Overlap a b → ⊥) → overlap a b ≡ false
overlap_not a b h = go (overlap a b) refl
  where
    go : (t : Bool) → overlap a b ≡ t → overlap a b ≡ false
    go false e = e
    go true e = absurd (h (overlap_facts a b e))

-- the four comparisons of the code
pub overlap_is : (a b : Span)
    → (ltb a.start (end a) && ltb a.start (end b) && ltb b.start (end a) && ltb b.start (end b)) ≡ overlap a b
overlap_is a b = go (ltb a.start (end a)) (ltb a.start (end b)) (ltb b.start (end a)) (ltb b.start (end b)) refl refl refl refl
  where
    go : (p q r s : Bool)
        → ltb a.start (end a) ≡ p
        → ltb a.start (end b) ≡ q
        → ltb b.start (end a) ≡ r
        → ltb b.start (end b) ≡ s
        → (p && q && r && s) ≡ overlap a b
    go true true true true e f g h =
        sym (overlap_test a b (record { own_a = ltb-true a.start (end a) e; own_b = ltb-true b.start (end b) h; first = ltb-true a.start (end b) f; second = ltb-true b.start (end a) g }))
    go false q r s e f g h = sym (overlap_not a b (λ o. omega (arith, o.own_a, ltb-false a.start (end a) e)))
    go true false r s e f g h = sym (overlap_not a b (λ o. omega (arith, o.first, ltb-false a.start (end b) f)))
    go true true false s e f g h = sym (overlap_not a b (λ o. omega (arith, o.second, ltb-false b.start (end a) g)))
    go true true true false e f g h = sym (overlap_not a b (λ o. omega (arith, o.own_b, ltb-false b.start (end b) h)))

-- "overlap" is a paragraph in common
pub record Common (a b : Span) : Type 0 where
  pub paragraph : ℕ
  pub in_a : covers a paragraph ≡ true
  pub in_b : covers b paragraph ≡ true

pub overlap_common : (a b : Span) → overlap a b ≡ true → Common a b
overlap_common a b e =
    let o = overlap_facts a b e in
    record {
      paragraph = max a.start b.start;
      in_a = covers_test a (max a.start b.start) (omega arith) (omega (arith, o.own_a, o.second));
      in_b = covers_test b (max a.start b.start) (omega arith) (omega (arith, o.own_b, o.first));
    }

pub common_overlap : (a b : Span) (p : ℕ) → covers a p ≡ true → covers b p ≡ true → overlap a b ≡ true
common_overlap a b p e f =
    let x = covers_facts a p e in
    let y = covers_facts b p f in
    overlap_test a b (record { own_a = omega (arith, x.from, x.below); own_b = omega (arith, y.from, y.below); first = omega (arith, x.from, y.below); second = omega (arith, y.from, x.below) })

pub record LiesIn (s outer : Span) : Type 0 where
  pub from : outer.start ≤ s.start
  pub to : end s ≤ end outer

pub lies_facts : (s outer : Span) → lies_in s outer ≡ true → LiesIn s outer
unfolding lies_in
lies_facts s outer e =
    let a = and_parts (leb outer.start s.start) (leb (end s) (end outer)) e in
    record { from = leb-true outer.start s.start a.0; to = leb-true (end s) (end outer) a.1 }

pub lies_test : (s outer : Span) → outer.start ≤ s.start → end s ≤ end outer → lies_in s outer ≡ true
unfolding lies_in
lies_test s outer a b = rw (le-leb outer.start s.start a, le-leb (end s) (end outer) b)

-- ---- a loop over a list: what is ahead at place i
pub next : (l : List Span) (i : ℕ) → i < length l → drop i l ≡ get_or l i none ∷ drop (i + 1) l
next l i h = drop-cons l i none h ∙ rw add-one

pub past : (l : List Span) (i : ℕ) → length l ≤ i → drop i l ≡ []
past l i h = drop_of_length-le l h

-- ---- a chain that asks of each: std's words for it are the paper's
pub any_is : (p : Span → Bool) (l : List Span) → list_any p l ≡ any_of p l
unfolding any_of
any_is p [] = refl
any_is p (x ∷ l) = rw (any_is p l) (go (p x))
  where
    go : (t : Bool) → (t || any_of p l) ≡ cond t true (any_of p l)
    go true = refl
    go false = refl

pub all_is : (p : Span → Bool) (l : List Span) → list_all p l ≡ all_of p l
unfolding all_of
all_is p [] = refl
all_is p (x ∷ l) = rw (all_is p l) (go (p x))
  where
    go : (t : Bool) → (t && all_of p l) ≡ cond t (all_of p l) false
    go true = refl
    go false = refl

-- ---- a loop that keeps the largest figure so far
pub record Kept (f : Span → ℕ) (l : List Span) (so i : ℕ) : Type 0 where
  pub rest : most_of f l ≡ max so (most_of f (drop i l))

module _ {f : Span → ℕ} {l : List Span} where
  pub kept_start : Kept f l 0 0
  kept_start = record { rest = omega arith }

  pub kept_next : {so more i : ℕ} → Kept f l so i → i < length l → more ≡ max so (f (get_or l i none)) → Kept f l more (i + 1)
  unfolding most_of
  kept_next {so} {more} {i} a h e = record { rest = a.rest ∙ rw (next l i h) (omega arith) }

  pub kept_end : {so i : ℕ} → Kept f l so i → length l ≤ i → so ≡ most_of f l
  unfolding most_of
  kept_end {so} {i} a h = sym (a.rest ∙ rw (past l i h) (omega arith))
