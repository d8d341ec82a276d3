-- Spans whose start and length have 16 bits: those that were read, what a free leaves of them, and what is granted beside them.
use mathlib.Core.Path.{◌≡◌, refl}
use mathlib.Core.Bool.{Bool, true, false, cond, ◌&&◌}
use mathlib.Core.List.{List, [], ◌∷◌, ◌++◌}
use Prim.Native.Nat.{ℕ, zero, suc, ◌+◌, ◌-◌, ◌≤◌, ◌<◌, max, min}
use native.Mathlib.Omega.{arith}
use borrow.Author.Tests.{ltb-true, eqb-true, eqb-false}
use lib.Dec.{ltb, eqb}
use lib.ListN.{length, get_or, take}
use Rattle.lists.proofs.BoolLaws.{and_parts}
use Rattle.numbers.specs.Numbers.{Bytes, two}
use Rattle.memory_spans.specs.declared.Span.{Span}
use Rattle.memory_spans.specs.Span.{paragraphs, span, none, end, most_of}
use Rattle.memory_spans.specs.Room.{run, free_in, room, has_room}
use Rattle.memory_spans.proofs.SearchMore.{run_le}
use Rattle.std.specs.Prelude.{Option, Some, None}
use Rattle.memory_room.specs.Starts.{lowest_start, grant_at, grant_of}
use Rattle.memory_regions.specs.Freeing.{edge, left, freed}
use Rattle.memory_regions.proofs.FreeLaws.{rest_named}
use Rattle.memory_bytes.specs.TableBytes.{span_bytes, span_at, spans_at}
use Rattle.memory_bytes.specs.RoundTrip.{Short}
use Rattle.load_header.specs.Header.{base_at, most_at, need}
use Rattle.load_grants.specs.Grants.{followed, granted_to, grants}

-- ---- each span of a list
pub data Every (P : Span → Type 0) : List Span → Type 0 where
  nothing : Every P []
  also : (x : Span) (l : List Span) → P x → Every P l → Every P (x ∷ l)

module _ {P : Span → Type 0} where
  pub every_behind : {l m : List Span} → Every P l → Every P m → Every P (l ++ m)
  every_behind nothing b = b
  every_behind {m = m} (also x l p a) b = also x (l ++ m) p (every_behind a b)

  pub every_take : (n : ℕ) {l : List Span} → Every P l → Every P (take n l)
  every_take zero a = nothing
  every_take (suc n) nothing = nothing
  every_take (suc n) (also x l p a) = also x (take n l) p (every_take n a)

  pub every_at : {l : List Span} → P none → Every P l → (i : ℕ) → P (get_or l i none)
  every_at z nothing i = z
  every_at z (also x l p a) zero = p
  every_at z (also x l p a) (suc i) = every_at z a i

  pub every_of : (l : List Span) → ((i : ℕ) → i < length l → P (get_or l i none)) → Every P l
  every_of [] f = nothing
  every_of (x ∷ l) f = also x l (f 0 (omega arith)) (every_of l (λ i h. f (suc i) (omega arith)))

pub none_short : Short none
none_short = record { start = omega arith; length = omega arith }

-- ---- what was read
module _ (b : List ℕ) (bytes : Bytes b) where
  pub two_low : (a : ℕ) → two b a < paragraphs
  two_low a = omega (arith, bytes a, bytes (a + 1))

  pub spans_short : (a k : ℕ) → Every Short (spans_at b a k)
  unfolding spans_at
  spans_short a zero = nothing
  spans_short a (suc k) =
      also (span_at b a) (spans_at b (a + span_bytes) k) (record { start = two_low a; length = two_low (a + 2) }) (spans_short (a + span_bytes) k)

-- ---- what a free leaves, of regions that end where 16 bits can name it
pub record Named (s : Span) : Type 0 where
  pub short : Short s
  pub ends : end s ≤ paragraphs

all_short : {l : List Span} → Every Named l → Every Short l
all_short nothing = nothing
all_short (also x l p a) = also x l p.short (all_short a)

left_short : (part region : Span) → edge part region ≡ true → Named region → Every Short (left part region)
unfolding left
left_short part region e n = go (eqb part.length region.length) (eqb part.start region.start) refl refl
  where
    go : (s t : Bool)
        → eqb part.length region.length ≡ s
        → eqb part.start region.start ≡ t
        → Every Short (cond s [] (cond t (span (end part) (region.length - part.length) ∷ []) (span region.start (region.length - part.length) ∷ [])))
    go true t u v = nothing
    go false true u v =
        let start = rest_named part region e (eqb-false part.length region.length u) (eqb-true part.start region.start v) n.ends in
        also (span (end part) (region.length - part.length)) [] (record { start = start; length = omega (arith, n.short.length) }) nothing
    go false false u v =
        also (span region.start (region.length - part.length)) [] (record { start = n.short.start; length = omega (arith, n.short.length) }) nothing

pub freed_short : (part : Span) {l : List Span} → Every Named l → Every Short (freed part l)
unfolding freed
freed_short part nothing = nothing
freed_short part (also r l p a) = go (edge part r) refl (freed_short part a)
  where
    go : (t : Bool) → edge part r ≡ t → Every Short (freed part l) → Every Short (cond t (left part r ++ l) (r ∷ freed part l))
    go true q ih = every_behind (left_short part r q p) (all_short a)
    go false q ih = also r (freed part l) p.short ih

-- ---- what is granted: no room is longer than its piece
most_low : (f : Span → ℕ) → ((x : Span) → f x ≤ x.length) → {l : List Span} → Every Short l → most_of f l < paragraphs
unfolding most_of
most_low f h nothing = omega arith
most_low f h (also x l p a) = omega (arith, h x, p.length, most_low f h a)

module _ (pieces : List Span) (short : Every Short pieces) where
  room_low : (regions : List Span) (s : ℕ) → room pieces regions s < paragraphs
  unfolding room
  room_low regions s = most_low (λ piece. run (free_in piece regions) s piece.length) (λ piece. run_le (free_in piece regions) s piece.length) short

  at_short : (regions : List Span) (start need most : ℕ) (s : Span) → grant_at pieces regions start need most ≡ Some s → Short s
  unfolding grant_at
  at_short regions start need most s g = go (ltb start paragraphs && has_room pieces regions need start) refl g
    where
      go : (t : Bool)
          → (ltb start paragraphs && has_room pieces regions need start) ≡ t
          → cond t (Some (span start (min (max most need) (room pieces regions start)))) None ≡ Some s
          → Short s
      go false u v = let z : ◌≡◌ {A = ℕ} 0 1 = cc in absurd (omega arith)
      go true u v =
          let z : span start (min (max most need) (room pieces regions start)) ≡ s = cc in
          let a = ltb-true start paragraphs (and_parts (ltb start paragraphs) (has_room pieces regions need start) u).0 in
          rw (← z) (record { start = a; length = omega (arith, room_low regions start) })

  given_short : (regions : List Span) (base need most : ℕ) (s : Span) → grant_of pieces regions base need most ≡ Some s → Short s
  unfolding grant_of
  given_short regions base need most s g = at_short regions (cond (eqb base 0) (lowest_start pieces regions need) base) need most s g

  pub grants_short : (h : List ℕ) (regions : List Span) (i k : ℕ) → Every Short (grants h pieces regions i k)
  unfolding grants followed
  grants_short h regions i zero = nothing
  grants_short h regions i (suc k) = go (granted_to h pieces regions i) refl (λ s. grants_short h (regions ++ (s ∷ [])) (suc i) k)
    where
      go : (g : Option Span)
          → granted_to h pieces regions i ≡ g
          → ((s : Span) → Every Short (grants h pieces (regions ++ (s ∷ [])) (suc i) k))
          → Every Short (followed g (λ s. grants h pieces (regions ++ (s ∷ [])) (suc i) k))
      go None q ih = nothing
      go (Some s) q ih = also s (grants h pieces (regions ++ (s ∷ [])) (suc i) k) (given_short regions (base_at h i) (need h i) (most_at h i) s q) (ih s)
