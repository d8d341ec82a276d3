-- Laws of the rules.
use mathlib.Core.Path.{◌≡◌, refl, ◌∙◌}
use mathlib.Core.Bool.{true, false, ◌&&◌}
use mathlib.Core.List.{List}
use Prim.Native.Nat.{ℕ, ◌+◌, ◌*◌, ◌≤◌, ◌<◌}
use borrow.Author.Tests.{leb-true}
use native.Mathlib.Omega.{arith}
use lib.Dec.{leb}
use lib.ListN.{length, get_or, drop}
use Rattle.lists.proofs.BoolLaws.{and_parts}
use Rattle.memory_spans.specs.declared.Span.{Span}
use Rattle.memory_spans.specs.Span.{paragraph_bytes, paragraphs, none, end, overlap, lies_in, any_of, all_of}
use Rattle.memory_spans.specs.Rules.{apart, in_memory, in_one_of, lawful}
use Rattle.memory_spans.proofs.SpanLaws.{next, past, lies_facts}
use Rattle.memory_spans.proofs.MemberLaws.{In, any_true}

-- ---- the four rules
pub record Lawful (bytes : ℕ) (pieces regions : List Span) : Type 0 where
  pub memory : all_of (in_memory bytes) pieces ≡ true
  pub pieces_apart : apart pieces ≡ true
  pub regions_apart : apart regions ≡ true
  pub in_one : all_of (in_one_of pieces) regions ≡ true

pub lawful_facts : (bytes : ℕ) (pieces regions : List Span) → lawful bytes pieces regions ≡ true → Lawful bytes pieces regions
unfolding lawful
lawful_facts bytes pieces regions e =
    let a = and_parts (all_of (in_memory bytes) pieces && apart pieces && apart regions) (all_of (in_one_of pieces) regions) e in
    let b = and_parts (all_of (in_memory bytes) pieces && apart pieces) (apart regions) a.0 in
    let c = and_parts (all_of (in_memory bytes) pieces) (apart pieces) b.0 in
    record { memory = c.0; pieces_apart = c.1; regions_apart = b.1; in_one = a.1 }

pub lawful_test : (bytes : ℕ) (pieces regions : List Span) → Lawful bytes pieces regions → lawful bytes pieces regions ≡ true
unfolding lawful
lawful_test bytes pieces regions l = rw (l.memory, l.pieces_apart, l.regions_apart, l.in_one)

-- a region lies in the memory
pub region_in_memory : (bytes : ℕ) (pieces regions : List Span) → lawful bytes pieces regions ≡ true → (s : Span) → In s regions
    → (end s ≤ paragraphs) × (paragraph_bytes * end s ≤ bytes)
region_in_memory bytes pieces regions e s i =
    let l = lawful_facts bytes pieces regions e in
    let h = any_true (lies_in s) pieces (i.all (in_one_of pieces) l.in_one) in
    let f = lies_facts s h.it h.passes in
    let m = and_parts (leb (end h.it) paragraphs) (leb (paragraph_bytes * end h.it) bytes) (h.among.all (in_memory bytes) l.memory) in
    let a = leb-true (end h.it) paragraphs m.0 in
    let b = leb-true (paragraph_bytes * end h.it) bytes m.1 in
    (omega (arith, f.to), omega (arith, f.to))

-- ---- a loop that asks of each whether a later one overlaps it
pub record Parted (l : List Span) (i : ℕ) : Type 0 where
  pub rest : apart l ≡ apart (drop i l)

module _ {l : List Span} where
  pub parted_start : Parted l 0
  parted_start = record { rest = refl }

  pub parted_next : {i : ℕ} → Parted l i → i < length l → any_of (overlap (get_or l i none)) (drop (i + 1) l) ≡ false → Parted l (i + 1)
  unfolding apart
  parted_next {i} a h e = record { rest = a.rest ∙ rw (next l i h, e) }

  pub parted_not : {i : ℕ} → Parted l i → i < length l → any_of (overlap (get_or l i none)) (drop (i + 1) l) ≡ true → apart l ≡ false
  unfolding apart
  parted_not {i} a h e = a.rest ∙ rw (next l i h, e)

  pub parted_all : {i : ℕ} → Parted l i → length l ≤ i → apart l ≡ true
  unfolding apart
  parted_all {i} a h = a.rest ∙ rw (past l i h)
