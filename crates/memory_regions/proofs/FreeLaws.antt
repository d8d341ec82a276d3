-- Laws of a free: what the first region that matches leaves, and what "start or end" tells.
use mathlib.Core.Path.{◌≡◌, refl, sym, ap, ◌∙◌}
use mathlib.Core.Bool.{Bool, true, false, cond, ◌||◌}
use mathlib.Core.List.{List, [], ◌∷◌, ◌++◌}
use mathlib.Core.Logic.{◌⊎◌, inl, inr}
use Prim.Native.Nat.{ℕ, zero, suc, ◌≤◌, ◌<◌}
use native.Mathlib.Omega.{arith}
use borrow.Author.Tests.{eqb-true, eq-eqb, ltb-true, ltb-false}
use lib.Dec.{ltb, eqb}
use lib.ListN.{length, get_or, take, drop}
use Rattle.std.specs.Prelude.{Option, Some, None}
use Rattle.std.specs.Option.{MatchOption}
use Rattle.std.specs.List.{position_or_len}
use Rattle.std.proofs.lemmas.List.Sums.{position_or_len_is}
use Rattle.lists.specs.Bounded.{low_from}
use Rattle.lists.proofs.BoolLaws.{and_parts}
use Rattle.lists.proofs.BoundedLaws.{low_hit, low_miss}
use Rattle.memory_spans.specs.declared.Span.{Span}
use Rattle.memory_spans.specs.Span.{paragraphs, none, end, lies_in, any_of}
use native.Mathlib.Nat.{sub-zero}
use Rattle.memory_spans.proofs.SpanLaws.{LiesIn, lies_facts}
use Rattle.memory_spans.proofs.RoomLaws.{Stop, low_stop}
use Rattle.memory_regions.specs.Freeing.{edge, left, freed}
use Rattle.memory_regions.specs.CodeFreeing.{first_edge}

-- the first match, by its place
pub freed_low : (part : Span) (l : List Span) (at : ℕ)
    → at < length l
    → edge part (get_or l at none) ≡ true
    → ((i : ℕ) → i < at → edge part (get_or l i none) ≡ false)
    → freed part l ≡ take at l ++ (left part (get_or l at none) ++ drop (suc at) l)
unfolding freed
freed_low part [] at h e f = absurd (omega arith)
freed_low part (x ∷ l) zero h e f = rw e
freed_low part (x ∷ l) (suc at) h e f =
    rw (f 0 (omega arith)) (ap (λ (k : List Span). x ∷ k) (freed_low part l at (omega arith) e (λ i b. f (suc i) (omega arith))))

-- what "start or end" tells
pub record Edge (part region : Span) : Type 0 where
  pub inside : LiesIn part region
  pub either : (end part ≡ end region) ⊎ (part.start ≡ region.start)

pub edge_facts : (part region : Span) → edge part region ≡ true → Edge part region
unfolding edge
edge_facts part region e =
    let a = and_parts (lies_in part region) (eqb (end part) (end region) || eqb part.start region.start) e in
    record { inside = lies_facts part region a.0; either = go (eqb (end part) (end region)) refl a.1 }
  where
    go : (t : Bool)
        → eqb (end part) (end region) ≡ t
        → (t || eqb part.start region.start) ≡ true
        → (end part ≡ end region) ⊎ (part.start ≡ region.start)
    go true u f = inl (eqb-true (end part) (end region) u)
    go false u f = inr (eqb-true part.start region.start f)

-- the rest behind a start begins where 16 bits can name it
pub rest_named : (part region : Span) → edge part region ≡ true → (part.length ≡ region.length → ⊥) → part.start ≡ region.start → end region ≤ paragraphs
    → end part < paragraphs
rest_named part region e n z h = let i = (edge_facts part region e).inside in omega (arith, n, i.to)

pub part_shorter : (part region : Span) → edge part region ≡ true → part.length ≤ region.length
part_shorter part region e = let i = (edge_facts part region e).inside in omega (arith, i.from, i.to)

-- ---- one of the first places matches
pub any_place : (p : Span → Bool) (l : List Span) → ((i : ℕ) → i < length l → p (get_or l i none) ≡ false) → any_of p l ≡ false
unfolding any_of
any_place p [] h = refl
any_place p (x ∷ l) h = rw (h 0 (omega arith)) (any_place p l (λ i b. h (suc i) (omega arith)))

pub any_at : (p : Span → Bool) (l : List Span) (i : ℕ) → i < length l → p (get_or l i none) ≡ true → any_of p l ≡ true
unfolding any_of
any_at p [] i h e = absurd (omega arith)
any_at p (x ∷ l) zero h e = rw e
any_at p (x ∷ l) (suc i) h e = go (p x) (any_at p l i (omega arith) e)
  where
    go : (t : Bool) → any_of p l ≡ true → cond t true (any_of p l) ≡ true
    go true ih = refl
    go false ih = ih

-- the first match is a place exactly where there is a match
pub first_any : (part : Span) (l : List Span) → any_of (edge part) l ≡ ltb (first_edge part l) (length l)
unfolding first_edge
first_any part l = go (ltb (low_from (λ i. edge part (get_or l i none)) 0 (length l)) (length l)) refl
  where
    go : (t : Bool) → ltb (low_from (λ i. edge part (get_or l i none)) 0 (length l)) (length l) ≡ t → any_of (edge part) l ≡ t
    go true u =
        let b = ltb-true (low_from (λ i. edge part (get_or l i none)) 0 (length l)) (length l) u in
        let h = low_hit (λ i. edge part (get_or l i none)) 0 (length l) (low_from (λ i. edge part (get_or l i none)) 0 (length l)) refl (omega arith) in
        any_at (edge part) l (low_from (λ i. edge part (get_or l i none)) 0 (length l)) b h.passes
    go false u =
        let b = ltb-false (low_from (λ i. edge part (get_or l i none)) 0 (length l)) (length l) u in
        any_place (edge part) l (λ i x. low_miss (λ i. edge part (get_or l i none)) 0 (length l) (omega arith) i (omega arith) (omega arith))

-- what a free at the first match leaves
pub record First (part : Span) (l : List Span) (at : ℕ) : Type 0 where
  pub matches : edge part (get_or l at none) ≡ true
  pub leaves : freed part l ≡ take at l ++ (left part (get_or l at none) ++ drop (suc at) l)

pub first_leaves : (part : Span) (l : List Span) (at : ℕ) → at ≡ first_edge part l → at < length l → First part l at
unfolding first_edge
first_leaves part l at e h =
    let f = low_hit (λ i. edge part (get_or l i none)) 0 (length l) at (sym e) (omega arith) in
    record { matches = f.passes; leaves = freed_low part l at h f.passes (λ i b. f.first i (omega arith) b) }

pub left_none : (part region : Span) → part.length ≡ region.length → left part region ≡ []
unfolding left
left_none part region e = rw (eq-eqb part.length region.length e)

-- the search of the code
position_is : (part : Span) (l : List Span) → position_or_len (edge part) l ≡ first_edge part l
unfolding first_edge
position_is part l =
    let t = λ (i : ℕ). edge part (get_or l i none) in
    let s : Stop t 0 (length l) (low_from t 0 (length l)) = rw sub-zero at (low_stop t 0 (length l) (omega arith)) in
    position_or_len_is (edge part) l (low_from t 0 (length l)) none s.to (λ k h. s.before k (omega arith) h) s.hit

pub first_found : (part : Span) (l : List Span)
    → cond (ltb (position_or_len (edge part) l) (length l)) (Some (position_or_len (edge part) l)) None
    ≡ cond (any_of (edge part) l) (Some (first_edge part l)) None
first_found part l = rw (position_is part l, first_any part l)

-- a place that is found is one of the regions; where none is, the first edge lies behind them
pub first_place : (part : Span) (l : List Span) (o : Option ℕ) → o ≡ cond (any_of (edge part) l) (Some (first_edge part l)) None
    → MatchOption o (length l ≤ first_edge part l) (λ at. at < length l)
first_place part l o e = go (any_of (edge part) l) (first_any part l) o e
  where
    go : (t : Bool) → t ≡ ltb (first_edge part l) (length l) → (o : Option ℕ) → o ≡ cond t (Some (first_edge part l)) None
        → MatchOption o (length l ≤ first_edge part l) (λ at. at < length l)
    go true u (Some at) f = let g : at ≡ first_edge part l = (cc) in rw g (ltb-true (first_edge part l) (length l) (sym u))
    go true u None f = (cc)
    go false u (Some at) f = (cc)
    go false u None f = ltb-false (first_edge part l) (length l) (sym u)

-- all of the region is freed, or a part of it
pub freed_whole : (part : Span) (l : List Span) (at : ℕ) → First part l at → part.length ≡ (get_or l at none).length → freed part l ≡ take at l ++ drop (suc at) l
freed_whole part l at f e = f.leaves ∙ rw (left_none part (get_or l at none) e)

pub freed_rest : (part : Span) (l : List Span) (at : ℕ) (r : Span) → First part l at → left part (get_or l at none) ≡ r ∷ [] → freed part l ≡ take at l ++ (r ∷ drop (suc at) l)
freed_rest part l at r f e = f.leaves ∙ rw e
