-- A region granted where there is room, and a free, keep the rules; a free of what was granted last leaves the regions as they were.
use mathlib.Core.Path.{◌≡◌, refl, sym, ap, ◌∙◌}
use mathlib.Core.Bool.{Bool, true, false, cond, true≢false, false≢true}
use mathlib.Core.List.{List, [], ◌∷◌, ◌++◌}
use Prim.Native.Nat.{ℕ, suc, ◌+◌, ◌-◌, ◌≤◌, ◌<◌}
use native.Mathlib.Omega.{arith}
use borrow.Author.Tests.{eq-eqb, eqb-true}
use lib.Dec.{eqb}
use lib.ListN.{length}
use Rattle.memory_spans.specs.declared.Span.{Span}
use Rattle.memory_spans.specs.Span.{span, end, covers, overlap, lies_in, any_of, all_of}
use Rattle.memory_spans.specs.Rules.{apart, in_one_of}
use Rattle.memory_spans.specs.Room.{taken}
use Rattle.memory_spans.proofs.SpanLaws.{covers_facts, overlap_test, overlap_not, overlap_common, LiesIn, lies_facts, lies_test}
use Rattle.memory_spans.proofs.MemberLaws.{In, in_first_lem, in_later, any_true, any_false, any_none}
use Rattle.memory_spans.proofs.RulesLaws.{Lawful}
use Rattle.memory_spans.proofs.RoomLaws.{Roomy, free_in_covers, free_in_clear}
use Rattle.memory_regions.specs.Freeing.{edge, left, freed}
use Rattle.memory_regions.proofs.FreeLaws.{edge_facts, left_none}

-- ---- one more behind the others
any_behind : (p : Span → Bool) (l : List Span) (s : Span) → any_of p l ≡ false → p s ≡ false → any_of p (l ++ (s ∷ [])) ≡ false
unfolding any_of
any_behind p [] s e f = rw f
any_behind p (x ∷ l) s e f = go (p x) refl e (λ h. any_behind p l s h f)
  where
    go : (t : Bool) → p x ≡ t → cond t true (any_of p l) ≡ false → (any_of p l ≡ false → any_of p (l ++ (s ∷ [])) ≡ false) → cond t true (any_of p (l ++ (s ∷ []))) ≡ false
    go true q h ih = absurd (true≢false h)
    go false q h ih = ih h

all_behind : (p : Span → Bool) (l : List Span) (s : Span) → all_of p l ≡ true → p s ≡ true → all_of p (l ++ (s ∷ [])) ≡ true
unfolding all_of
all_behind p [] s e f = rw f
all_behind p (x ∷ l) s e f = go (p x) refl e (λ h. all_behind p l s h f)
  where
    go : (t : Bool) → p x ≡ t → cond t (all_of p l) false ≡ true → (all_of p l ≡ true → all_of p (l ++ (s ∷ [])) ≡ true) → cond t (all_of p (l ++ (s ∷ []))) false ≡ true
    go true q h ih = ih h
    go false q h ih = absurd (false≢true h)

apart_cons : (x : Span) (l : List Span) → apart (x ∷ l) ≡ true → (any_of (overlap x) l ≡ false) × (apart l ≡ true)
unfolding apart
apart_cons x l e = go (any_of (overlap x) l) refl e
  where
    go : (t : Bool) → any_of (overlap x) l ≡ t → cond t false (apart l) ≡ true → (any_of (overlap x) l ≡ false) × (apart l ≡ true)
    go true q h = absurd (false≢true h)
    go false q h = (q, h)

apart_behind : (l : List Span) (s : Span) → apart l ≡ true → ((x : Span) → In x l → overlap x s ≡ false) → apart (l ++ (s ∷ [])) ≡ true
unfolding apart any_of
apart_behind [] s e c = refl
apart_behind (x ∷ l) s e c =
    let a = apart_cons x l e in
    rw (any_behind (overlap x) l s a.0 (c x (in_first_lem x l))) (apart_behind l s a.1 (λ y i. c y (in_later y x l i)))

-- ---- a region with room overlaps no other, lies in one piece, and has a paragraph
module _ (pieces regions : List Span) (k s : ℕ) (r : Roomy pieces regions k s) where
  pub roomy_clear : (x : Span) → In x regions → overlap x (span s k) ≡ false
  unfolding taken
  roomy_clear x i = go (overlap x (span s k)) refl
    where
      go : (t : Bool) → overlap x (span s k) ≡ t → overlap x (span s k) ≡ false
      go false e = e
      go true e =
          let c = overlap_common x (span s k) e in
          let f = covers_facts (span s k) c.paragraph c.in_b in
          absurd (true≢false (sym (i.any (λ y. covers y c.paragraph) c.in_a) ∙ free_in_clear r.piece regions c.paragraph (r.clear c.paragraph f.from f.below)))

  pub roomy_inside : in_one_of pieces (span s k) ≡ true
  roomy_inside =
      let a = covers_facts r.piece s (free_in_covers r.piece regions s (r.clear s (omega arith) (omega (arith, r.enough)))) in
      let b = covers_facts r.piece (s + k - 1) (free_in_covers r.piece regions (s + k - 1) (r.clear (s + k - 1) (omega (arith, r.enough)) (omega (arith, r.enough)))) in
      r.among.any (lies_in (span s k)) (lies_test (span s k) r.piece a.from (omega (arith, b.below, r.enough)))

pub grant_keeps : (bytes : ℕ) (pieces regions : List Span) (k s : ℕ)
    → Lawful bytes pieces regions
    → Roomy pieces regions k s
    → Lawful bytes pieces (regions ++ (span s k ∷ []))
grant_keeps bytes pieces regions k s l r =
    record {
      memory = l.memory;
      pieces_apart = l.pieces_apart;
      regions_apart = apart_behind regions (span s k) l.regions_apart (roomy_clear pieces regions k s r);
      in_one = all_behind (in_one_of pieces) regions (span s k) l.in_one (roomy_inside pieces regions k s r);
    }

-- ---- a free
data Left (region : Span) : List Span → Type 0 where
  gone : Left region []
  rest : (y : Span) → LiesIn y region → Left region (y ∷ [])

left_is : (part region : Span) → edge part region ≡ true → Left region (left part region)
unfolding left
left_is part region e = go (eqb part.length region.length) (eqb part.start region.start) refl refl
  where
    i : LiesIn part region
    i = (edge_facts part region e).inside

    go : (s t : Bool)
        → eqb part.length region.length ≡ s
        → eqb part.start region.start ≡ t
        → Left region (cond s [] (cond t (span (end part) (region.length - part.length) ∷ []) (span region.start (region.length - part.length) ∷ [])))
    go true t u v = gone
    go false true u v =
        let z = eqb-true part.start region.start v in
        rest (span (end part) (region.length - part.length)) (record { from = omega (arith, i.from); to = omega (arith, i.from, i.to) })
    go false false u v = rest (span region.start (region.length - part.length)) (record { from = omega arith; to = omega arith })

overlap_less : (x y r : Span) → LiesIn y r → overlap x r ≡ false → overlap x y ≡ false
overlap_less x y r i e =
    overlap_not x y
    (λ o. true≢false (sym (overlap_test x r (record { own_a = o.own_a; own_b = omega (arith, o.own_b, i.from, i.to); first = omega (arith, o.first, i.to); second = omega (arith, o.second, i.from) })) ∙ e))

less_overlap : (y r z : Span) → LiesIn y r → overlap r z ≡ false → overlap y z ≡ false
less_overlap y r z i e =
    overlap_not y z
    (λ o. true≢false (sym (overlap_test r z (record { own_a = omega (arith, o.own_a, i.from, i.to); own_b = o.own_b; first = omega (arith, o.first, i.from); second = omega (arith, o.second, i.to) })) ∙ e))

any_cons : (p : Span → Bool) (x : Span) (l : List Span) → any_of p (x ∷ l) ≡ false → (p x ≡ false) × (any_of p l ≡ false)
unfolding any_of
any_cons p x l e = go (p x) refl e
  where
    go : (t : Bool) → p x ≡ t → cond t true (any_of p l) ≡ false → (p x ≡ false) × (any_of p l ≡ false)
    go true q h = absurd (true≢false h)
    go false q h = (q, h)

all_cons : (p : Span → Bool) (x : Span) (l : List Span) → all_of p (x ∷ l) ≡ true → (p x ≡ true) × (all_of p l ≡ true)
unfolding all_of
all_cons p x l e = go (p x) refl e
  where
    go : (t : Bool) → p x ≡ t → cond t (all_of p l) false ≡ true → (p x ≡ true) × (all_of p l ≡ true)
    go true q h = (q, h)
    go false q h = absurd (false≢true h)

freed_clear : (part x : Span) (l : List Span) → any_of (overlap x) l ≡ false → any_of (overlap x) (freed part l) ≡ false
unfolding freed any_of
freed_clear part x [] e = refl
freed_clear part x (r ∷ l) e = go (edge part r) refl (any_cons (overlap x) r l e) (freed_clear part x l)
  where
    shorter : {k : List Span} → Left r k → overlap x r ≡ false → any_of (overlap x) l ≡ false → any_of (overlap x) (k ++ l) ≡ false
    shorter gone a b = b
    shorter (rest y i) a b = rw (overlap_less x y r i a) b

    go : (t : Bool)
        → edge part r ≡ t
        → (overlap x r ≡ false) × (any_of (overlap x) l ≡ false)
        → (any_of (overlap x) l ≡ false → any_of (overlap x) (freed part l) ≡ false)
        → any_of (overlap x) (cond t (left part r ++ l) (r ∷ freed part l)) ≡ false
    go true q a ih = shorter (left_is part r q) a.0 a.1
    go false q a ih = rw a.0 (ih a.1)

freed_apart : (part : Span) (l : List Span) → apart l ≡ true → apart (freed part l) ≡ true
unfolding freed apart
freed_apart part [] e = refl
freed_apart part (r ∷ l) e = go (edge part r) refl (apart_cons r l e) (freed_apart part l)
  where
    shorter : {k : List Span} → Left r k → any_of (overlap r) l ≡ false → apart l ≡ true → apart (k ++ l) ≡ true
    shorter gone a b = b
    shorter (rest y i) a b = rw (any_none (overlap y) l (λ z m. less_overlap y r z i (any_false (overlap r) l a z m))) b

    go : (t : Bool)
        → edge part r ≡ t
        → (any_of (overlap r) l ≡ false) × (apart l ≡ true)
        → (apart l ≡ true → apart (freed part l) ≡ true)
        → apart (cond t (left part r ++ l) (r ∷ freed part l)) ≡ true
    go true q a ih = shorter (left_is part r q) a.0 a.1
    go false q a ih = rw (freed_clear part r l a.0) (ih a.1)

in_one_less : (pieces : List Span) (y r : Span) → LiesIn y r → in_one_of pieces r ≡ true → in_one_of pieces y ≡ true
in_one_less pieces y r i e =
    let h = any_true (lies_in r) pieces e in
    let f = lies_facts r h.it h.passes in
    h.among.any (lies_in y) (lies_test y h.it (omega (arith, f.from, i.from)) (omega (arith, f.to, i.to)))

freed_inside : (part : Span) (pieces l : List Span) → all_of (in_one_of pieces) l ≡ true → all_of (in_one_of pieces) (freed part l) ≡ true
unfolding freed all_of
freed_inside part pieces [] e = refl
freed_inside part pieces (r ∷ l) e = go (edge part r) refl (all_cons (in_one_of pieces) r l e) (freed_inside part pieces l)
  where
    shorter : {k : List Span} → Left r k → in_one_of pieces r ≡ true → all_of (in_one_of pieces) l ≡ true → all_of (in_one_of pieces) (k ++ l) ≡ true
    shorter gone a b = b
    shorter (rest y i) a b = rw (in_one_less pieces y r i a) b

    go : (t : Bool)
        → edge part r ≡ t
        → (in_one_of pieces r ≡ true) × (all_of (in_one_of pieces) l ≡ true)
        → (all_of (in_one_of pieces) l ≡ true → all_of (in_one_of pieces) (freed part l) ≡ true)
        → all_of (in_one_of pieces) (cond t (left part r ++ l) (r ∷ freed part l)) ≡ true
    go true q a ih = shorter (left_is part r q) a.0 a.1
    go false q a ih = rw a.0 (ih a.1)

pub freed_length : (part : Span) (l : List Span) → length (freed part l) ≤ length l
unfolding freed
freed_length part [] = omega arith
freed_length part (r ∷ l) = go (edge part r) refl (freed_length part l)
  where
    shorter : {k : List Span} → Left r k → length (k ++ l) ≤ suc (length l)
    shorter gone = omega arith
    shorter (rest y i) = omega arith

    go : (t : Bool) → edge part r ≡ t → length (freed part l) ≤ length l → length (cond t (left part r ++ l) (r ∷ freed part l)) ≤ suc (length l)
    go true q ih = shorter (left_is part r q)
    go false q ih = omega arith

pub free_keeps : (bytes : ℕ) (pieces regions : List Span) (part : Span) → Lawful bytes pieces regions → Lawful bytes pieces (freed part regions)
free_keeps bytes pieces regions part l =
    record {
      memory = l.memory;
      pieces_apart = l.pieces_apart;
      regions_apart = freed_apart part regions l.regions_apart;
      in_one = freed_inside part pieces regions l.in_one;
    }

pub clear_keeps : (bytes : ℕ) (pieces regions : List Span) → Lawful bytes pieces regions → Lawful bytes pieces []
unfolding apart all_of
clear_keeps bytes pieces regions l = record { memory = l.memory; pieces_apart = l.pieces_apart; regions_apart = refl; in_one = refl }

-- ---- the free of the region granted last
edge_self : (s : Span) → edge s s ≡ true
unfolding edge
edge_self s = rw (lies_test s s (omega arith) (omega arith), eq-eqb (end s) (end s) refl)

edge_overlaps : (s x : Span) → 0 < s.length → overlap x s ≡ false → edge s x ≡ false
edge_overlaps s x h e = go (edge s x) refl
  where
    go : (t : Bool) → edge s x ≡ t → edge s x ≡ false
    go false q = q
    go true q =
        let i = (edge_facts s x q).inside in
        absurd (true≢false (sym (overlap_test x s (record { own_a = omega (arith, i.from, i.to); own_b = omega arith; first = omega (arith, i.from); second = omega (arith, i.to) })) ∙ e))

pub freed_last : (s : Span) (l : List Span) → 0 < s.length → ((x : Span) → In x l → overlap x s ≡ false) → freed s (l ++ (s ∷ [])) ≡ l
unfolding freed
freed_last s [] h c = rw (edge_self s, left_none s s refl)
freed_last s (x ∷ l) h c =
    rw (edge_overlaps s x h (c x (in_first_lem x l))) (ap (λ (k : List Span). x ∷ k) (freed_last s l h (λ y i. c y (in_later y x l i))))

pub any_last : (p : Span → Bool) (l : List Span) (s : Span) → p s ≡ true → any_of p (l ++ (s ∷ [])) ≡ true
unfolding any_of
any_last p [] s e = rw e
any_last p (x ∷ l) s e = go (p x) (any_last p l s e)
  where
    go : (t : Bool) → any_of p (l ++ (s ∷ [])) ≡ true → cond t true (any_of p (l ++ (s ∷ []))) ≡ true
    go true ih = refl
    go false ih = ih

pub freeable_last : (l : List Span) (s : Span) → any_of (edge s) (l ++ (s ∷ [])) ≡ true
freeable_last l s = any_last (edge s) l s (edge_self s)
