-- The round trips of the table, span by span and a span by its four bytes, and of the control block.
use mathlib.Core.Path.{◌≡◌, refl, sym, ap, ◌∙◌}
use mathlib.Core.List.{List, [], ◌∷◌, ◌++◌}
use Prim.Native.Nat.{ℕ, zero, suc, ◌+◌, ◌*◌, ◌/◌, ◌%◌, ◌≤◌, ◌<◌}
use native.Mathlib.Omega.{arith}
use lib.ListN.{length, get_or, length-append, get_or-append}
use lib.Seq.{ext_get_or, get_or-append-add}
use Rattle.lists.specs.Bytes.{byte, part}
use Rattle.joined.specs.Joined.{joined}
use Rattle.joined.proofs.JoinedLaws.{part_add, joined_byte}
use Rattle.numbers.specs.Numbers.{Bytes, bytes_of, bytes_from}
use Rattle.numbers.proofs.NumberLaws.{part_bytes, bytes_from_lem}
use Rattle.memory_spans.specs.declared.Span.{Span}
use Rattle.memory_spans.specs.Span.{places, paragraphs, none}
use Rattle.memory_regions.specs.Places.{padded}
use Rattle.memory_regions.proofs.PlaceLaws.{padded_length, padded_at}
use Rattle.memory_calls.specs.declared.Table.{Table}
use Rattle.memory_calls.specs.Table.{pieces_of, regions_of}
use Rattle.memory_bytes.specs.TableBytes.{table_bytes, PIECES, REGIONS, span_bytes, span_at, spans_at, used_in, table_of, span_laid, spans_laid, table_laid, mcb_laid}
use Rattle.memory_bytes.specs.RoundTrip.{Short, LaidIsRead, ReadIsLaid, McbIsRead}
use Rattle.memory_bytes.proofs.BytesLaws.{spans_length, spans_place, span_length, spans_laid_length}

-- ---- a span that was laid is read again, each of its two numbers
two_back : (x : ℕ) {p q : ℕ} → p ≡ x % 256 → q ≡ x / 256 % 256 → x < paragraphs → p + 256 * q ≡ x
two_back x e f h =
    let k : x / 256 < 256 = omega (arith, h) in
    let m : x / 256 % 256 ≡ x / 256 = omega (arith, k) in
    rw (e, f, m) (omega arith)

span_back : (b : List ℕ) (a : ℕ) (s : Span) → Short s → ((j : ℕ) → j < span_bytes → byte b (a + j) ≡ byte (span_laid s) j) → span_at b a ≡ s
unfolding span_laid bytes_of
span_back b a s h e =
    let z : a + 0 ≡ a = omega arith in
    let y : a + 3 ≡ a + 2 + 1 = omega arith in
    let b0 : byte b a ≡ s.start % 256 = rw z at (e 0 (omega arith)) in
    let b1 : byte b (a + 1) ≡ s.start / 256 % 256 = e 1 (omega arith) in
    let b2 : byte b (a + 2) ≡ s.length % 256 = e 2 (omega arith) in
    let b3 : byte b (a + 2 + 1) ≡ s.length / 256 % 256 = rw y at (e 3 (omega arith)) in
    let start : byte b a + 256 * byte b (a + 1) ≡ s.start = two_back s.start b0 b1 h.start in
    let length : byte b (a + 2) + 256 * byte b (a + 2 + 1) ≡ s.length = two_back s.length b2 b3 h.length in
    λ i. record { start = start i; length = length i }

pub mcb_is_read : McbIsRead
unfolding mcb_laid bytes_of
mcb_is_read m h k =
    let base = two_back m.base refl refl h in
    let length = two_back m.length refl refl k in
    λ i. record { base = base i; length = length i; ext = m.ext }

module _ (l : List Span) where
  -- a byte of the eight places
  laid_byte : (i j : ℕ) → i < places → j < span_bytes → byte (spans_laid l) (span_bytes * i + j) ≡ byte (span_laid (get_or l i none)) j
  unfolding spans_laid
  laid_byte i j h k =
      let z : 0 + i ≡ i = omega arith in
      rw z at (joined_byte (λ x. span_laid (get_or l x none)) span_bytes (λ x. span_length (get_or l x none)) 0 places i j h k)

module _ (t : Table) where
  piece_byte : (k : ℕ) → k < span_bytes * places → byte (table_laid t) (PIECES + k) ≡ byte (spans_laid (pieces_of t)) k
  unfolding table_laid
  piece_byte k h =
      get_or-append-add (t.used ∷ t.granted ∷ []) (spans_laid (pieces_of t) ++ spans_laid (regions_of t)) k 0
      ∙ get_or-append (spans_laid (pieces_of t)) (spans_laid (regions_of t)) 0 k (rw (spans_laid_length (pieces_of t)) h)

  region_byte : (k : ℕ) → byte (table_laid t) (REGIONS + k) ≡ byte (spans_laid (regions_of t)) k
  unfolding table_laid
  region_byte k =
      let p = spans_laid (pieces_of t) in
      let n : length p + k ≡ 32 + k = rw (spans_laid_length (pieces_of t)) in
      let z : REGIONS + k ≡ 2 + (32 + k) = omega arith in
      rw z
      (get_or-append-add (t.used ∷ t.granted ∷ []) (p ++ spans_laid (regions_of t)) (32 + k) 0
      ∙ rw n at (get_or-append-add p (spans_laid (regions_of t)) k 0))

  -- the eight places from byte a on are read as the spans that were laid there
  places_back : (l : List Span) (a : ℕ) → ((i : ℕ) → Short (get_or l i none))
      → ((k : ℕ) → k < span_bytes * places → byte (table_laid t) (a + k) ≡ byte (spans_laid l) k) → spans_at (table_laid t) a places ≡ padded places l
  places_back l a short laid =
      ext_get_or none (spans_at (table_laid t) a places) (padded places l) (spans_length (table_laid t) a places ∙ sym (padded_length places l))
      (λ i h.
      let m : i < places = rw (spans_length (table_laid t) a places) at h in
      spans_place (table_laid t) a places i m
      ∙ span_back (table_laid t) (a + span_bytes * i) (get_or l i none) (short i)
      (λ j k.
      let z : a + span_bytes * i + j ≡ a + (span_bytes * i + j) = omega arith in
      rw z (laid (span_bytes * i + j) (omega arith) ∙ laid_byte l i j m k))
      ∙ sym (padded_at places l i m))

  table_length : length (table_laid t) ≡ table_bytes
  unfolding table_laid
  table_length = let p = spans_laid_length (pieces_of t) in let r = spans_laid_length (regions_of t) in simp length-append (omega (arith, p, r))

  number_laid : byte (table_laid t) 0 ≡ t.used
  unfolding table_laid
  number_laid = refl

  used_laid : used_in (table_laid t) ≡ t.used
  unfolding used_in
  used_laid = rw table_length number_laid

  granted_laid : byte (table_laid t) 1 ≡ t.granted
  unfolding table_laid
  granted_laid = refl

pub laid_is_read : LaidIsRead
unfolding table_of
laid_is_read t c =
    let p = places_back t (pieces_of t) PIECES c.piece (piece_byte t) ∙ sym c.pieces_end in
    let r = places_back t (regions_of t) REGIONS c.region (λ k h. region_byte t k) ∙ sym c.regions_end in
    let u = used_laid t in
    let g = granted_laid t in
    λ i. record { pieces = p i; used = u i; regions = r i; granted = g i }

-- ---- 66 bytes that were read are laid again
two_again : (p q : ℕ) → p < 256 → q < 256 → ((p + 256 * q) % 256 ≡ p) × ((p + 256 * q) / 256 % 256 ≡ q)
two_again p q h k = let d : (p + 256 * q) / 256 ≡ q = omega (arith, h) in (omega (arith, h), rw d (omega (arith, k)))

used_read : (b : List ℕ) → length b ≡ table_bytes → used_in b ≡ byte b 0
unfolding used_in
used_read b size = rw size

module _ (b : List ℕ) (bytes : Bytes b) (size : length b ≡ table_bytes) where
  span_again : (a : ℕ) → a + span_bytes ≤ table_bytes → span_laid (span_at b a) ≡ part b a span_bytes
  unfolding span_laid bytes_of bytes_from
  span_again a h =
      let x = two_again (byte b a) (byte b (a + 1)) (bytes a) (bytes (a + 1)) in
      let y = two_again (byte b (a + 2)) (byte b (a + 2 + 1)) (bytes (a + 2)) (bytes (a + 2 + 1)) in
      let w3 : suc (suc (suc a)) ≡ a + 2 + 1 = omega arith in
      let w2 : suc (suc a) ≡ a + 2 = omega arith in
      let w1 : suc a ≡ a + 1 = omega arith in
      let e : part b a span_bytes ≡ byte b a ∷ byte b (a + 1) ∷ byte b (a + 2) ∷ byte b (a + 2 + 1) ∷ [] =
      rw (w3, w2, w1) at (part_bytes b a span_bytes (omega (arith, size))) in
      rw (x.0, x.1, y.0, y.1) (sym e)

  -- the places one behind the other are the part that they stand in
  parts_joined : (r : ℕ → List ℕ) (a i k : ℕ) → ((j : ℕ) → j < i + k → r j ≡ part b (a + span_bytes * j) span_bytes)
      → joined r i k ≡ part b (a + span_bytes * i) (span_bytes * k)
  unfolding joined
  parts_joined r a i zero e = let z : span_bytes * 0 ≡ 0 = omega arith in rw z (unfold part in refl)
  parts_joined r a i (suc k) e =
      let z : span_bytes * suc k ≡ span_bytes + span_bytes * k = omega arith in
      let y : a + span_bytes * suc i ≡ a + span_bytes * i + span_bytes = omega arith in
      rw (z, part_add b (a + span_bytes * i) span_bytes (span_bytes * k), e i (omega arith))
      (ap (λ (x : List ℕ). part b (a + span_bytes * i) span_bytes ++ x) (rw y at (parts_joined r a (suc i) k (λ j h. e j (omega arith)))))

  places_again : (l : List Span) (a : ℕ) → a + span_bytes * places ≤ table_bytes → spans_at b a places ≡ padded places l
      → spans_laid l ≡ part b a (span_bytes * places)
  unfolding spans_laid
  places_again l a h e =
      let z : a + span_bytes * 0 ≡ a = omega arith in
      rw z at
      (parts_joined (λ i. span_laid (get_or l i none)) a 0 places
      (λ j k.
      let m : j < places = omega (arith, k) in
      let s : get_or l j none ≡ span_at b (a + span_bytes * j) = sym (padded_at places l j m) ∙ ap (λ (x : List Span). get_or x j none) (sym e) ∙ spans_place b a places j m in
      ap span_laid s ∙ span_again (a + span_bytes * j) (omega arith)))

  whole : (byte b 0 ∷ byte b 1 ∷ []) ++ (part b PIECES (span_bytes * places) ++ part b REGIONS (span_bytes * places)) ≡ b
  unfolding bytes_from
  whole =
      let two : part b 0 2 ≡ byte b 0 ∷ byte b 1 ∷ [] = part_bytes b 0 2 (omega (arith, size)) in
      let all : part b 0 66 ≡ b = part_bytes b 0 66 (omega (arith, size)) ∙ bytes_from_lem b 66 size in
      ap (λ (x : List ℕ). x ++ (part b PIECES 32 ++ part b REGIONS 32)) (sym two)
      ∙ ap (λ (x : List ℕ). part b 0 2 ++ x) (sym (part_add b 2 32 32)) ∙ sym (part_add b 0 2 64) ∙ all

pub read_is_laid : ReadIsLaid
unfolding table_laid table_of
read_is_laid b bytes size c =
    let p = places_again b bytes size (pieces_of (table_of b)) PIECES (omega arith) c.pieces_end in
    let r = places_again b bytes size (regions_of (table_of b)) REGIONS (omega arith) c.regions_end in
    rw (p, r, used_read b size) (whole b bytes size)
