-- The lowest start with room is the start of a piece or lies straight behind a region, so no other start needs a look: neither for
-- the lowest one nor for the longest run.
use mathlib.Core.Path.{◌≡◌, refl, sym, ap, ◌∙◌}
use mathlib.Core.Bool.{Bool, true, false, cond, ◌&&◌, true≢false}
use mathlib.Core.List.{List, [], ◌∷◌, ◌++◌, map}
use Rattle.std.specs.List.{fold}
use mathlib.Core.Logic.{◌⊎◌, inl, inr, ⊎_elim}
use Prim.Native.Nat.{ℕ, suc, ◌+◌, ◌-◌, ◌≤◌, ◌<◌, max}
use native.Mathlib.Decide.{ℕ_discrete}
use native.Mathlib.Nat.{sub-zero}
use native.Mathlib.Omega.{arith}
use borrow.Author.Tests.{ltb-true, ltb-false, lt-ltb, eqb-true, eq-eqb}
use lib.Dec.{ltb, eqb}
use Rattle.lists.specs.Bounded.{low_from}
use Rattle.lists.proofs.BoolLaws.{and_parts}
use Rattle.lists.proofs.BoundedLaws.{low_le, low_miss}
use Rattle.memory_spans.specs.declared.Span.{Span}
use Rattle.memory_spans.specs.Span.{paragraphs, end, covers, any_of, most_of}
use Rattle.memory_spans.specs.Room.{taken, free_in, room, has_room}
use Rattle.memory_spans.proofs.SpanLaws.{Covers, covers_facts, covers_test}
use Rattle.memory_spans.proofs.MemberLaws.{In, Hit, any_true}
use Rattle.memory_spans.proofs.SearchMore.{low_or}
use Rattle.memory_spans.proofs.RoomLaws.{Stop, low_stop, stop_low, room_facts, room_test, Roomy, has_roomy, roomy_has, free_in_test, free_in_covers, free_in_clear}
use Rattle.memory_room.specs.Starts.{lowest_start, most_from, longest}
use Rattle.memory_room.specs.CodeCandidates.{at_one, room_below}
use Rattle.memory_room.proofs.MostLaws.{MostAt, most_from_hit, most_from_le, most_from_at, most_of_le}

-- ---- one candidate more
spread : (a b c : Bool) → (cond a true b && c) ≡ cond (a && c) true (b && c)
spread true b true = refl
spread true true false = refl
spread true false false = refl
spread false b c = refl

nothing : (a : Bool) → (a && false) ≡ false
nothing true = refl
nothing false = refl

at_one_next : (of : Span → ℕ) (x : Span) (l : List Span) (p : ℕ → Bool) (low : ℕ)
    → low_from (at_one of (x ∷ l) p) 0 low ≡ low_from (at_one of l p) 0 (cond (ltb (of x) low && p (of x)) (of x) low)
unfolding at_one any_of
at_one_next of x l p low = go (ltb (of x) low) (p (of x)) refl refl
  where
    is : (m : ℕ) → (cond (eqb (of x) m) true (any_of (λ y. eqb (of y) m) l) && p m) ≡ cond (eqb (of x) m && p m) true (any_of (λ y. eqb (of y) m) l && p m)
    is m = spread (eqb (of x) m) (any_of (λ y. eqb (of y) m) l) (p m)

    search : (f : ℕ) → f ≤ low → ((m : ℕ) → 0 ≤ m → m < f → (eqb (of x) m && p m) ≡ false) → (f < low → (eqb (of x) f && p f) ≡ true)
        → low_from (λ m. cond (eqb (of x) m) true (any_of (λ y. eqb (of y) m) l) && p m) 0 low ≡ low_from (λ m. any_of (λ y. eqb (of y) m) l && p m) 0 f
    search f a clear hit =
        rw (sub-zero, sub-zero) at
        (low_or (λ m. any_of (λ y. eqb (of y) m) l && p m) (λ m. eqb (of x) m && p m) (λ m. cond (eqb (of x) m) true (any_of (λ y. eqb (of y) m) l) && p m) 0 low f is (omega arith) a clear hit)

    none : (m : ℕ) → (of x ≡ m → p m ≡ false) → (eqb (of x) m && p m) ≡ false
    none m h = at (eqb (of x) m) refl
      where
        at : (t : Bool) → eqb (of x) m ≡ t → (t && p m) ≡ false
        at true e = h (eqb-true (of x) m e)
        at false e = refl

    go : (s t : Bool) → ltb (of x) low ≡ s → p (of x) ≡ t
        → low_from (λ m. cond (eqb (of x) m) true (any_of (λ y. eqb (of y) m) l) && p m) 0 low ≡ low_from (λ m. any_of (λ y. eqb (of y) m) l && p m) 0 (cond (s && t) (of x) low)
    go true true e f =
        let b = ltb-true (of x) low e in
        search (of x) (omega arith) (λ m u v. none m (λ z. absurd (omega arith))) (λ u. rw (eq-eqb (of x) (of x) refl, f))
    go true false e f = search low (omega arith) (λ m u v. none m (λ z. rw (← z) f)) (λ u. absurd (omega arith))
    go false t e f =
        let b = ltb-false (of x) low e in
        search low (omega arith) (λ m u v. none m (λ z. absurd (omega arith))) (λ u. absurd (omega arith))

at_one_none : (of : Span → ℕ) (p : ℕ → Bool) (low : ℕ) → low_from (at_one of [] p) 0 low ≡ low
unfolding at_one any_of
at_one_none of p low =
    rw sub-zero at (stop_low (λ m. false) 0 low low (record { from = omega arith; to = omega arith; before = λ m a b. refl; hit = λ x. absurd (omega arith) }))

at_one_of : (of : Span → ℕ) (l : List Span) (p : ℕ → Bool) (s : ℕ) → at_one of l p s ≡ true → Hit (λ x. eqb (of x) s) l
unfolding at_one
at_one_of of l p s e = any_true (λ x. eqb (of x) s) l (and_parts (any_of (λ x. eqb (of x) s) l) (p s) e).0

at_one_passes : (of : Span → ℕ) (l : List Span) (p : ℕ → Bool) (s : ℕ) → at_one of l p s ≡ true → p s ≡ true
unfolding at_one
at_one_passes of l p s e = (and_parts (any_of (λ x. eqb (of x) s) l) (p s) e).1

at_one_test : (of : Span → ℕ) (x : Span) (l : List Span) (p : ℕ → Bool) (s : ℕ) → In x l → of x ≡ s → p s ≡ true → at_one of l p s ≡ true
unfolding at_one
at_one_test of x l p s i z e = rw (i.any (λ y. eqb (of y) s) (eq-eqb (of x) s z), e)

-- ---- the lowest start with room is one of the candidates
module _ (pieces regions : List Span) (k : ℕ) where
  first_is : (s : ℕ)
      → has_room pieces regions k s ≡ true
      → ((m : ℕ) → m < s → has_room pieces regions k m ≡ false)
      → (at_one (λ x. x.start) pieces (has_room pieces regions k) s ≡ true) ⊎ (at_one (λ x. end x) regions (has_room pieces regions k) s ≡ true)
  unfolding taken
  first_is s e f = go (ℕ_discrete x.start s)
    where
      r : Roomy pieces regions k s
      r = has_roomy pieces regions k s e

      x : Span
      x = r.piece

      here : free_in r.piece regions s ≡ true
      here = r.clear s (omega arith) (omega (arith, r.enough))

      inside : Covers r.piece s
      inside = covers_facts r.piece s (free_in_covers r.piece regions s here)

      behind : (h : Hit (λ y. covers y (s - 1)) regions) → 0 < s → end h.it ≡ s
      behind h b =
          let a = covers_facts h.it (s - 1) h.passes in
          go (ltb s (end h.it)) refl a
        where
          go : (t : Bool) → ltb s (end h.it) ≡ t → Covers h.it (s - 1) → end h.it ≡ s
          go false u a = omega (arith, ltb-false s (end h.it) u, a.below)
          go true u a =
              absurd
              (true≢false
              (sym (h.among.any (λ y. covers y s) (covers_test h.it s (omega (arith, a.from)) (ltb-true s (end h.it) u)))
              ∙ free_in_clear r.piece regions s here))

      below : (t : Bool) → taken regions (s - 1) ≡ t → r.piece.start < s
          → (at_one (λ x. x.start) pieces (has_room pieces regions k) s ≡ true) ⊎ (at_one (λ x. end x) regions (has_room pieces regions k) s ≡ true)
      below true u b =
          let h = any_true (λ y. covers y (s - 1)) regions u in
          inr (at_one_test (λ x. end x) h.it regions (has_room pieces regions k) s h.among (behind h (omega arith)) e)
      below false u b =
          absurd
          (true≢false
          (sym
          (roomy_has pieces regions k (s - 1)
          (record {
            piece = r.piece;
            among = r.among;
            enough = r.enough;
            fits = r.fits;
            clear = λ p v w. lower p v w (ℕ_discrete p (s - 1));
          }))
          ∙ f (s - 1) (omega arith)))
        where
          lower : (p : ℕ) → s - 1 ≤ p → p < s - 1 + k → Dec (p ≡ s - 1) → free_in r.piece regions p ≡ true
          lower p v w (yes z) = rw z (free_in_test r.piece regions (s - 1) (covers_test r.piece (s - 1) (omega arith) (omega (arith, inside.below))) u)
          lower p v w (no z) = r.clear p (omega arith) (omega arith)

      go : Dec (x.start ≡ s) → (at_one (λ x. x.start) pieces (has_room pieces regions k) s ≡ true) ⊎ (at_one (λ x. end x) regions (has_room pieces regions k) s ≡ true)
      go (yes z) = inl (at_one_test (λ x. x.start) r.piece pieces (has_room pieces regions k) s r.among z e)
      go (no z) = below (taken regions (s - 1)) refl (omega (arith, inside.from))

  -- below every start with room, or at it, there is a candidate
  pub record Found (m : ℕ) : Type 0 where
    pub at : ℕ
    pub le : at ≤ m
    pub passes : has_room pieces regions k at ≡ true
    pub candidate : (at_one (λ x. x.start) pieces (has_room pieces regions k) at ≡ true) ⊎ (at_one (λ x. end x) regions (has_room pieces regions k) at ≡ true)

  pub found : (m : ℕ) → has_room pieces regions k m ≡ true → Found m
  found m e = go (low_stop (has_room pieces regions k) 0 (suc m) (omega arith)) (ltb (low_from (has_room pieces regions k) 0 (suc m - 0)) (suc m)) refl
    where
      go : Stop (has_room pieces regions k) 0 (suc m) (low_from (has_room pieces regions k) 0 (suc m - 0))
          → (t : Bool)
          → ltb (low_from (has_room pieces regions k) 0 (suc m - 0)) (suc m) ≡ t
          → Found m
      go s true u =
          let b = ltb-true (low_from (has_room pieces regions k) 0 (suc m - 0)) (suc m) u in
          record {
            at = low_from (has_room pieces regions k) 0 (suc m - 0);
            le = omega arith;
            passes = s.hit b;
            candidate = first_is (low_from (has_room pieces regions k) 0 (suc m - 0)) (s.hit b) (λ n x. s.before n (omega arith) x);
          }
      go s false u =
          let b = ltb-false (low_from (has_room pieces regions k) 0 (suc m - 0)) (suc m) u in
          absurd (true≢false (sym e ∙ s.before m (omega arith) (omega arith)))

-- ---- the lowest of the candidates is the lowest start
module _ (pieces regions : List Span) (k a b : ℕ)
    (sa : Stop (at_one (λ x. x.start) pieces (has_room pieces regions k)) 0 paragraphs a)
    (sb : Stop (at_one (λ x. end x) regions (has_room pieces regions k)) 0 a b) where
  lowest_before : (m : ℕ) → m < b → has_room pieces regions k m ≡ false
  lowest_before m h = go (has_room pieces regions k m) refl
    where
      go : (t : Bool) → has_room pieces regions k m ≡ t → has_room pieces regions k m ≡ false
      go false e = e
      go true e =
          let f = found pieces regions k m e in
          absurd
          (⊎_elim
          (λ c. true≢false (sym c ∙ sa.before f.at (omega arith) (omega (arith, f.le, sb.to))))
          (λ c. true≢false (sym c ∙ sb.before f.at (omega arith) (omega (arith, f.le))))
          f.candidate)

  lowest_hit : b < paragraphs → has_room pieces regions k b ≡ true
  lowest_hit h = go (ltb b a) refl
    where
      go : (t : Bool) → ltb b a ≡ t → has_room pieces regions k b ≡ true
      go true u = at_one_passes (λ x. end x) regions (has_room pieces regions k) b (sb.hit (ltb-true b a u))
      go false u =
          let z : b ≡ a = omega (arith, ltb-false b a u, sb.to) in
          rw z (at_one_passes (λ x. x.start) pieces (has_room pieces regions k) a (sa.hit (omega arith)))

  lowest_stop : Stop (has_room pieces regions k) 0 paragraphs b
  lowest_stop = record { from = omega arith; to = omega (arith, sa.to, sb.to); before = λ m x y. lowest_before m y; hit = lowest_hit }

pub lowest_is : (pieces regions : List Span) (k a b : ℕ)
    → a ≡ low_from (at_one (λ x. x.start) pieces (has_room pieces regions k)) 0 paragraphs
    → b ≡ low_from (at_one (λ x. end x) regions (has_room pieces regions k)) 0 a
    → (b ≡ lowest_start pieces regions k) × (b ≤ paragraphs)
unfolding lowest_start
lowest_is pieces regions k a b e f =
    let sa : Stop (at_one (λ x. x.start) pieces (has_room pieces regions k)) 0 paragraphs a = rw e (low_stop (at_one (λ x. x.start) pieces (has_room pieces regions k)) 0 paragraphs (omega arith)) in
    let sb : Stop (at_one (λ x. end x) regions (has_room pieces regions k)) 0 a b =
    rw f (rw sub-zero at (low_stop (at_one (λ x. end x) regions (has_room pieces regions k)) 0 a (omega arith))) in
    let s = lowest_stop pieces regions k a b sa sb in
    (sym (stop_low (has_room pieces regions k) 0 paragraphs b s), s.to)

-- the same, candidate by candidate: this form evaluates
unfoldable pub lower_of : (Span → ℕ) → List Span → (ℕ → Bool) → ℕ → ℕ
lower_of of [] p low = low
lower_of of (x ∷ l) p low = lower_of of l p (cond (ltb (of x) low && p (of x)) (of x) low)

lower_of_is : (of : Span → ℕ) (l : List Span) (p : ℕ → Bool) (low : ℕ) → low_from (at_one of l p) 0 low ≡ lower_of of l p low
unfolding lower_of
lower_of_is of [] p low = at_one_none of p low
lower_of_is of (x ∷ l) p low = at_one_next of x l p low ∙ lower_of_is of l p (cond (ltb (of x) low && p (of x)) (of x) low)

pub lowest_by : (pieces regions : List Span) (k : ℕ)
    → lowest_start pieces regions k
    ≡ lower_of (λ x. end x) regions (has_room pieces regions k) (lower_of (λ x. x.start) pieces (has_room pieces regions k) paragraphs)
lowest_by pieces regions k =
    sym
    (lowest_is pieces regions k
    (lower_of (λ x. x.start) pieces (has_room pieces regions k) paragraphs)
    (lower_of (λ x. end x) regions (has_room pieces regions k) (lower_of (λ x. x.start) pieces (has_room pieces regions k) paragraphs))
    (sym (lower_of_is (λ x. x.start) pieces (has_room pieces regions k) paragraphs))
    (sym (lower_of_is (λ x. end x) regions (has_room pieces regions k) (lower_of (λ x. x.start) pieces (has_room pieces regions k) paragraphs)))
    ).0

-- the candidates in the code's order, and its two searches of them
abbrev pub candidates : List Span → List Span → List ℕ
candidates pieces regions = map (λ x. x.start) pieces ++ map (λ x. end x) regions

abbrev pub lowered : (ℕ → Bool) → ℕ → ℕ → ℕ
lowered p low s = cond (ltb s low && p s) s low

lowered_is : (of : Span → ℕ) (l : List Span) (p : ℕ → Bool) (low : ℕ) → fold (lowered p) low (map of l) ≡ lower_of of l p low
unfolding lower_of
lowered_is of [] p low = refl
lowered_is of (x ∷ l) p low = lowered_is of l p (lowered p low (of x))

fold_both : (h : ℕ → ℕ → ℕ) (a : ℕ) (l m : List ℕ) → fold h a (l ++ m) ≡ fold h (fold h a l) m
fold_both h a [] m = refl
fold_both h a (x ∷ l) m = fold_both h (h a x) l m

pub lowest_folded : (pieces regions : List Span) (k r : ℕ)
    → r ≡ fold (lowered (has_room pieces regions k)) paragraphs (candidates pieces regions)
    → (r ≡ lowest_start pieces regions k) × (r ≤ paragraphs)
unfolding lowest_start
lowest_folded pieces regions k r e =
    let p = has_room pieces regions k in
    let is : r ≡ lowest_start pieces regions k =
    e
    ∙ fold_both (lowered p) paragraphs (map (λ x. x.start) pieces) (map (λ x. end x) regions)
    ∙ lowered_is (λ x. end x) regions p (fold (lowered p) paragraphs (map (λ x. x.start) pieces))
    ∙ ap (lower_of (λ x. end x) regions p) (lowered_is (λ x. x.start) pieces p paragraphs)
    ∙ sym (lowest_by pieces regions k) in
    (is, omega (arith, is, low_le p 0 paragraphs))

-- ---- the longest run begins at a candidate
below_le : (pieces regions : List Span) (s : ℕ) → room_below pieces regions s ≤ longest pieces regions
unfolding room_below longest
below_le pieces regions s = go (ltb s paragraphs) refl
  where
    go : (t : Bool) → ltb s paragraphs ≡ t → cond t (room pieces regions s) 0 ≤ most_from (room pieces regions) 0 paragraphs
    go true u = most_from_at (room pieces regions) 0 paragraphs s (omega arith) (omega (arith, ltb-true s paragraphs u))
    go false u = omega arith

longest_le : (pieces regions : List Span) (b : ℕ) → ((m : ℕ) → m < paragraphs → room pieces regions m ≤ b) → longest pieces regions ≤ b
unfolding longest
longest_le pieces regions b h = most_from_le (room pieces regions) 0 paragraphs b (λ m x y. h m (omega arith))

below_is : (pieces regions : List Span) (s : ℕ) → s < paragraphs → room_below pieces regions s ≡ room pieces regions s
unfolding room_below
below_is pieces regions s h = rw (lt-ltb s paragraphs h)

at_most : (pieces regions : List Span) (of : Span → ℕ) (l : List Span) (k s : ℕ)
    → s < paragraphs
    → k ≤ room pieces regions s
    → at_one of l (has_room pieces regions k) s ≡ true
    → k ≤ most_of (λ x. room_below pieces regions (of x)) l
at_most pieces regions of l k s b h e =
    let i = at_one_of of l (has_room pieces regions k) s e in
    let z : of i.it ≡ s = eqb-true (of i.it) s i.passes in
    let m : room_below pieces regions (of i.it) ≤ most_of (λ x. room_below pieces regions (of x)) l = i.among.most (λ x. room_below pieces regions (of x)) in
    let n : room_below pieces regions (of i.it) ≡ room pieces regions s = ap (room_below pieces regions) z ∙ below_is pieces regions s b in
    omega arith

pub longest_is : (pieces regions : List Span)
    → longest pieces regions ≡ max (most_of (λ x. room_below pieces regions x.start) pieces) (most_of (λ x. room_below pieces regions (end x)) regions)
longest_is pieces regions =
    omega (
      arith,
      most_of_le (λ x. room_below pieces regions x.start) pieces (longest pieces regions) (λ x. below_le pieces regions x.start),
      most_of_le (λ x. room_below pieces regions (end x)) regions (longest pieces regions) (λ x. below_le pieces regions (end x)),
      up,
    )
  where
    one : (m : ℕ) → m < paragraphs → (t : Bool) → has_room pieces regions (room pieces regions m) m ≡ t
        → room pieces regions m ≤ max (most_of (λ x. room_below pieces regions x.start) pieces) (most_of (λ x. room_below pieces regions (end x)) regions)
    one m h true e =
        let f = found pieces regions (room pieces regions m) m e in
        let r = (room_facts pieces regions (room pieces regions m) f.at f.passes).1 in
        ⊎_elim
        (λ c. let z = at_most pieces regions (λ x. x.start) pieces (room pieces regions m) f.at (omega (arith, f.le)) r c in omega arith)
        (λ c. let z = at_most pieces regions (λ x. end x) regions (room pieces regions m) f.at (omega (arith, f.le)) r c in omega arith)
        f.candidate
    one m h false e = zero_room (ℕ_discrete (room pieces regions m) 0)
      where
        zero_room : Dec (room pieces regions m ≡ 0)
            → room pieces regions m ≤ max (most_of (λ x. room_below pieces regions x.start) pieces) (most_of (λ x. room_below pieces regions (end x)) regions)
        zero_room (yes z) = omega arith
        zero_room (no z) = absurd (true≢false (sym (room_test pieces regions (room pieces regions m) m (omega arith) (omega arith)) ∙ e))

    up : longest pieces regions ≤ max (most_of (λ x. room_below pieces regions x.start) pieces) (most_of (λ x. room_below pieces regions (end x)) regions)
    up = longest_le pieces regions (max (most_of (λ x. room_below pieces regions x.start) pieces) (most_of (λ x. room_below pieces regions (end x)) regions)) (λ m h. one m h (has_room pieces regions (room pieces regions m) m) refl)

largest : (f : ℕ → ℕ) (of : Span → ℕ) (a : ℕ) (l : List Span) → fold (λ m s. max m (f s)) a (map of l) ≡ max a (most_of (λ x. f (of x)) l)
unfolding most_of
largest f of a [] = omega arith
largest f of a (x ∷ l) = largest f of (max a (f (of x))) l ∙ omega arith

-- the largest so far of the candidates, which 16 bits can name
pub record Largest (pieces regions : List Span) (l : List ℕ) (so : ℕ) : Type 0 where
  pub is : so ≡ fold (λ m s. max m (room_below pieces regions s)) 0 l
  pub named : so < paragraphs

pub largest_start : (pieces regions : List Span) → Largest pieces regions [] 0
largest_start pieces regions = record { is = refl; named = omega arith }

pub largest_next : (pieces regions : List Span) (l : List ℕ) (so s more : ℕ) → Largest pieces regions l so
    → more ≡ max so (room_below pieces regions s) → more < paragraphs → Largest pieces regions (l ++ (s ∷ [])) more
largest_next pieces regions l so s more g e b =
    record { is = e ∙ rw (fold_both (λ m s. max m (room_below pieces regions s)) 0 l (s ∷ []), g.is); named = b }

pub longest_folded : (pieces regions : List Span) (r : ℕ) → Largest pieces regions (candidates pieces regions) r
    → (r ≡ longest pieces regions) × (r < paragraphs)
longest_folded pieces regions r g =
    let f = room_below pieces regions in
    let both = fold_both (λ m s. max m (f s)) 0 (map (λ x. x.start) pieces) (map (λ x. end x) regions) in
    let first = largest f (λ x. x.start) 0 pieces in
    let second = largest f (λ x. end x) (fold (λ m s. max m (f s)) 0 (map (λ x. x.start) pieces)) regions in
    (omega (arith, g.is, both, first, second, longest_is pieces regions), g.named)

-- where there is a free paragraph, a start has the most room
pub longest_there : (pieces regions : List Span) → 0 < longest pieces regions → lowest_start pieces regions (longest pieces regions) < paragraphs
unfolding longest lowest_start
longest_there pieces regions h = go (ltb (low_from (has_room pieces regions (most_from (room pieces regions) 0 paragraphs)) 0 paragraphs) paragraphs) refl
  where
    m : MostAt (room pieces regions) 0 paragraphs
    m = most_from_hit (room pieces regions) 0 paragraphs h

    go : (t : Bool)
        → ltb (low_from (has_room pieces regions (most_from (room pieces regions) 0 paragraphs)) 0 paragraphs) paragraphs ≡ t
        → low_from (has_room pieces regions (most_from (room pieces regions) 0 paragraphs)) 0 paragraphs < paragraphs
    go true u = ltb-true (low_from (has_room pieces regions (most_from (room pieces regions) 0 paragraphs)) 0 paragraphs) paragraphs u
    go false u =
        let b = ltb-false (low_from (has_room pieces regions (most_from (room pieces regions) 0 paragraphs)) 0 paragraphs) paragraphs u in
        let e = low_miss (has_room pieces regions (most_from (room pieces regions) 0 paragraphs)) 0 paragraphs (omega arith) m.at (omega arith) (omega (arith, m.below)) in
        let f = room_test pieces regions (most_from (room pieces regions) 0 paragraphs) m.at h (omega (arith, m.is)) in
        absurd (true≢false (sym f ∙ e))
