-- What the groups are granted: no more than their most, and no two regions share a byte.
use mathlib.Core.Path.{◌≡◌, refl}
use mathlib.Core.Bool.{Bool, true, false, cond, ◌&&◌}
use mathlib.Core.List.{List, [], ◌∷◌, ◌++◌}
use mathlib.Core.Logic.{◌⊎◌, inl, inr}
use Prim.Native.Nat.{ℕ, zero, suc, ◌+◌, ◌*◌, ◌/◌, ◌≤◌, ◌<◌, min, max}
use native.Mathlib.Omega.{arith}
use native.Mathlib.Decide.{dec_lt}
use borrow.Author.Tests.{le-leb, lt-ltb}
use lib.Dec.{eqb, ltb}
use lib.ListN.{length, get_or, length-append}
use lib.Seq.{get_or-append-add}
use Rattle.memory_spans.specs.declared.Span.{Span}
use Rattle.memory_spans.specs.Span.{paragraph_bytes, paragraphs, none, end, span, covers}
use Rattle.memory_spans.specs.Rules.{apart, lawful}
use Rattle.memory_spans.specs.Room.{room, has_room}
use Rattle.memory_spans.proofs.RulesLaws.{lawful_facts}
use Rattle.std.specs.Prelude.{Option, Some, None}
use Rattle.memory_room.specs.Starts.{lowest_start, grant_at, grant_of}
use Rattle.memory_promises.proofs.RoomPlaces.{apart_once}
use Rattle.load_header.specs.Header.{base_at, most_at, need}
use Rattle.load_promises.specs.Promises.{OutsideOf}
use Rattle.load_grants.specs.Grants.{followed, granted_to, grants}
use Rattle.load_grants.proofs.GrantsLaws.{grants_keep}

-- ---- no more than the most
at_most : (pieces regions : List Span) (base n most : ℕ) (s : Span) → grant_of pieces regions base n most ≡ Some s → s.length ≤ max most n
unfolding grant_of grant_at
at_most pieces regions base n most s e = go (cond (eqb base 0) (lowest_start pieces regions n) base) e
  where
    go : (start : ℕ)
        → cond (ltb start paragraphs && has_room pieces regions n start) (Some (span start (min (max most n) (room pieces regions start)))) None ≡ Some s
        → s.length ≤ max most n
    go start f = by (ltb start paragraphs && has_room pieces regions n start) f
      where
        by : (t : Bool) → cond t (Some (span start (min (max most n) (room pieces regions start)))) None ≡ Some s → s.length ≤ max most n
        by true q = let z : s ≡ span start (min (max most n) (room pieces regions start)) = cc in rw z (omega arith)
        by false q = let z : ◌≡◌ {A = ℕ} 0 1 = cc in absurd (omega arith)

module _ (h : List ℕ) (pieces : List Span) where
  pub grants_most : (regions : List Span) (i k : ℕ) → length (grants h pieces regions i k) ≡ k
      → (j : ℕ) → j < k → (get_or (grants h pieces regions i k) j none).length ≤ max (most_at h (i + j)) (need h (i + j))
  unfolding grants followed
  grants_most regions i zero n j b = absurd (omega arith)
  grants_most regions i (suc k) n j b = go (granted_to h pieces regions i) refl n (λ s y j z. grants_most (regions ++ (s ∷ [])) (suc i) k y j z) j b
    where
      go : (g : Option Span)
          → granted_to h pieces regions i ≡ g
          → length (followed g (λ s. grants h pieces (regions ++ (s ∷ [])) (suc i) k)) ≡ suc k
          → ((s : Span)
          → length (grants h pieces (regions ++ (s ∷ [])) (suc i) k) ≡ k
          → (j : ℕ) → j < k
          → (get_or (grants h pieces (regions ++ (s ∷ [])) (suc i) k) j none).length ≤ max (most_at h (suc i + j)) (need h (suc i + j)))
          → (j : ℕ)
          → j < suc k
          → (get_or (followed g (λ s. grants h pieces (regions ++ (s ∷ [])) (suc i) k)) j none).length ≤ max (most_at h (i + j)) (need h (i + j))
      go None q n ih j b = absurd (omega (arith, n))
      go (Some s) q n ih zero b = let z : i + 0 ≡ i = omega arith in rw z (at_most pieces regions (base_at h i) (need h i) (most_at h i) s q)
      go (Some s) q n ih (suc j) b = let z : suc i + j ≡ i + suc j = omega arith in rw (← z) (ih s (omega (arith, n)) j (omega arith))

-- ---- no byte belongs to two regions
covers_it : (s : Span) (y : ℕ) → paragraph_bytes * s.start ≤ y → y < paragraph_bytes * end s → covers s (y / paragraph_bytes) ≡ true
unfolding covers
covers_it s y a b = rw (le-leb s.start (y / paragraph_bytes) (omega arith), lt-ltb (y / paragraph_bytes) (end s) (omega arith))

apart_bytes : (l : List Span) → apart l ≡ true → (i j y : ℕ) → i < length l → j < length l → (i ≡ j → ⊥)
    → paragraph_bytes * (get_or l i none).start ≤ y → y < paragraph_bytes * end (get_or l i none) → OutsideOf (get_or l j none) y
apart_bytes l e i j y a b n c d = go (dec_lt y (paragraph_bytes * (get_or l j none).start)) (dec_lt y (paragraph_bytes * end (get_or l j none)))
  where
    both : paragraph_bytes * (get_or l j none).start ≤ y → y < paragraph_bytes * end (get_or l j none) → Dec (i < j) → ⊥
    both p q (yes k) = apart_once l e i j (y / paragraph_bytes) k b (covers_it (get_or l i none) y c d) (covers_it (get_or l j none) y p q)
    both p q (no k) = apart_once l e j i (y / paragraph_bytes) (omega arith) a (covers_it (get_or l j none) y p q) (covers_it (get_or l i none) y c d)

    go : Dec (y < paragraph_bytes * (get_or l j none).start) → Dec (y < paragraph_bytes * end (get_or l j none))
        → (y + 1 ≤ paragraph_bytes * (get_or l j none).start) ⊎ (paragraph_bytes * end (get_or l j none) ≤ y)
    go (yes k) m = inl (omega arith)
    go (no k) (no m) = inr (omega arith)
    go (no k) (yes m) = absurd (both (omega arith) m (dec_lt i j))

pub grants_apart : (bytes : ℕ) (h : List ℕ) (pieces regions : List Span) (n : ℕ) → lawful bytes pieces regions ≡ true → length (grants h pieces regions 0 n) ≡ n
    → (i j y : ℕ) → i < n → j < n → (i ≡ j → ⊥) → paragraph_bytes * (get_or (grants h pieces regions 0 n) i none).start ≤ y
    → y < paragraph_bytes * end (get_or (grants h pieces regions 0 n) i none) → OutsideOf (get_or (grants h pieces regions 0 n) j none) y
grants_apart bytes h pieces regions n e all i j y a b m c d =
    let l = lawful_facts bytes pieces (regions ++ grants h pieces regions 0 n) (grants_keep bytes h pieces regions 0 n e) in
    let q : length (regions ++ grants h pieces regions 0 n) ≡ length regions + n = rw length-append (omega (arith, all)) in
    rw (at j) at
    (apart_bytes (regions ++ grants h pieces regions 0 n) l.regions_apart (length regions + i) (length regions + j) y (omega arith) (omega arith) (λ z. m (omega arith))
    (rw (at i) c) (rw (at i) d))
  where
    at : (k : ℕ) → get_or (regions ++ grants h pieces regions 0 n) (length regions + k) none ≡ get_or (grants h pieces regions 0 n) k none
    at k = get_or-append-add regions (grants h pieces regions 0 n) k none
