-- How far a group reaches, against the bytes that the lines give it.
use mathlib.Core.Path.{◌≡◌, refl}
use mathlib.Core.Bool.{Bool, true, false, cond, ◌&&◌, ◌||◌, false≢true}
use mathlib.Core.List.{List, [], ◌∷◌}
use Prim.Native.Nat.{ℕ, ◌+◌, ◌-◌, ◌/◌, ◌≤◌, ◌<◌, max}
use native.Mathlib.Decide.{dec_lt}
use native.Mathlib.Omega.{arith}
use lib.Dec.{leb, ltb, eqb}
use borrow.Author.Tests.{ltb-true, leb-true, lt-ltb, le-leb}
use Rattle.lists.proofs.BoolLaws.{and_left, and_right}
use Rattle.memory_spans.specs.Span.{paragraph_bytes}
use Rattle.load_header.specs.Header.{CODE, DATA, EXTRA, STACK, page_paragraphs}
use Rattle.std.specs.Prelude.{is_none, None}
use Rattle.gencmd_lines.specs.Line.{Line, addresses, count_of, address_of, group_of, is_end, line_refusal}
use Rattle.gencmd_lines.specs.Lines.{lines_refusal, data_lines}
use Rattle.gencmd_lines.proofs.RefusalLaws.{first_parts, line_within}
use Rattle.gencmd_groups.specs.declared.Groups.{Groups}
use Rattle.gencmd_groups.specs.Groups.{gives, given, end_of, reach_of, reaches, rounded, paragraphs, sizes_of}
use Rattle.gencmd_groups.specs.CodeMeasure.{ReachWithin, SizeWithin}
use Rattle.gencmd_groups.specs.HighestByte.{HighestByte}

-- ---- one line, with its test on the group, its address and its count as plain values
one_inside : (t : Bool) (x n a : ℕ) → (t && (leb x a && ltb a (x + n))) ≡ true → a < cond (t && ltb 0 n) (x + n) 0
one_inside false x n a e = absurd (false≢true e)
one_inside true x n a e =
    let h = ltb-true a (x + n) (and_right (leb x a) (ltb a (x + n)) e) in
    let k = leb-true x a (and_left (leb x a) (ltb a (x + n)) e) in
    rw (lt-ltb 0 n (omega arith)) h

one_last : (t : Bool) (x n : ℕ) → 0 < cond (t && ltb 0 n) (x + n) 0 → (t && (leb x (cond (t && ltb 0 n) (x + n) 0 - 1) && ltb (cond (t && ltb 0 n) (x + n) 0 - 1) (x + n))) ≡ true
one_last false x n h = absurd (omega arith)
one_last true x n h = go (ltb 0 n) refl h
  where
    go : (u : Bool) → ltb 0 n ≡ u → 0 < cond u (x + n) 0 → (leb x (cond u (x + n) 0 - 1) && ltb (cond u (x + n) 0 - 1) (x + n)) ≡ true
    go true q k =
        let m = ltb-true 0 n q in
        rw (le-leb x (x + n - 1) (omega arith), lt-ltb (x + n - 1) (x + n) (omega arith))
    go false q k = absurd (omega arith)

or-true : (t u : Bool) → t ≡ true → (t || u) ≡ true
or-true t u e = rw e

or_right : (t u : Bool) → u ≡ true → (t || u) ≡ true
or_right true u e = refl
or_right false u e = e

-- ---- all lines
inside_of : (ls : List Line) (g a : ℕ) → given ls g a ≡ true → a < reach_of ls g
unfolding given reach_of
inside_of [] g a e = absurd (false≢true e)
inside_of (l ∷ ls) g a e = go (gives l g a) (given ls g a) refl refl e (inside_of ls g a)
  where
    go : (t u : Bool) → gives l g a ≡ t → given ls g a ≡ u → (t || u) ≡ true → (given ls g a ≡ true → a < reach_of ls g) → a < max (end_of l g) (reach_of ls g)
    go true u p q f ih = let h = one_inside (eqb (group_of l) g) (address_of l) (count_of l) a p in omega arith
    go false true p q f ih = let h = ih q in omega arith
    go false false p q f ih = absurd (false≢true f)

last_of : (ls : List Line) (g : ℕ) → 0 < reach_of ls g → given ls g (reach_of ls g - 1) ≡ true
unfolding given reach_of
last_of [] g h = absurd (omega arith)
last_of (l ∷ ls) g h = go (dec_lt (end_of l g) (reach_of ls g)) (last_of ls g)
  where
    go : Dec (end_of l g < reach_of ls g) → (0 < reach_of ls g → given ls g (reach_of ls g - 1) ≡ true)
        → (gives l g (max (end_of l g) (reach_of ls g) - 1) || given ls g (max (end_of l g) (reach_of ls g) - 1)) ≡ true
    go (yes k) ih =
        let z : max (end_of l g) (reach_of ls g) ≡ reach_of ls g = omega arith in
        rw z (or_right (gives l g (reach_of ls g - 1)) (given ls g (reach_of ls g - 1)) (ih (omega arith)))
    go (no k) ih =
        let z : max (end_of l g) (reach_of ls g) ≡ end_of l g = omega arith in
        rw z (or-true (gives l g (end_of l g - 1)) (given ls g (end_of l g - 1)) (one_last (eqb (group_of l) g) (address_of l) (count_of l) (omega arith)))

pub highest_byte : (ls : List Line) (g : ℕ) → HighestByte ls g
highest_byte ls g = record { inside = inside_of ls g; last = last_of ls g }

-- ---- lines that are not refused reach no further than address FFFFH
end_within : (l : Line) (g : ℕ) → address_of l + count_of l ≤ addresses → end_of l g ≤ addresses
end_within l g h = go (eqb (group_of l) g && ltb 0 (count_of l))
  where
    go : (t : Bool) → cond t (address_of l + count_of l) 0 ≤ addresses
    go true = h
    go false = omega arith

reach_within : (ls : List Line) (g : ℕ) → is_none (lines_refusal ls) ≡ true → reach_of (data_lines ls) g ≤ addresses
unfolding lines_refusal data_lines reach_of
reach_within [] g e = omega arith
reach_within (l ∷ ls) g e = go (is_end l) refl (first_parts (line_refusal l) _ e) (reach_within ls g)
  where
    go : (t : Bool) → is_end l ≡ t → (is_none (line_refusal l) ≡ true) × (is_none (cond t None (lines_refusal ls)) ≡ true)
        → (is_none (lines_refusal ls) ≡ true → reach_of (data_lines ls) g ≤ addresses) → reach_of (cond t [] (l ∷ data_lines ls)) g ≤ addresses
    go true p q ih = omega arith
    go false p q ih =
        let h = end_within l g (line_within l q.0 p) in
        let k = ih q.1 in
        omega arith

pub reaches_within : (ls : List Line) → is_none (lines_refusal ls) ≡ true → ReachWithin (reaches (data_lines ls))
reaches_within ls e =
    record { code = reach_within ls CODE e; «data» = reach_within ls DATA e; extra = reach_within ls EXTRA e; stack = reach_within ls STACK e }

-- ---- and so a group has at most 4,096 paragraphs
paragraphs_within : (least reach : ℕ) → least ≤ page_paragraphs → reach ≤ addresses → paragraphs least reach ≤ addresses / paragraph_bytes
paragraphs_within least reach h k = go (eqb reach 0)
  where
    go : (t : Bool) → cond t 0 (max least (rounded reach)) ≤ addresses / paragraph_bytes
    go true = omega arith
    go false = omega arith

pub sizes_within : (r : Groups) → ReachWithin r → SizeWithin (sizes_of r)
unfolding sizes_of
sizes_within r w =
    record {
      code = paragraphs_within (cond (eqb r.«data» 0) page_paragraphs 0) r.code (least (eqb r.«data» 0)) w.code;
      «data» = paragraphs_within page_paragraphs r.«data» (omega arith) w.«data»;
      extra = paragraphs_within 0 r.extra (omega arith) w.extra;
      stack = paragraphs_within 0 r.stack (omega arith) w.stack;
    }
  where
    least : (t : Bool) → cond t page_paragraphs 0 ≤ page_paragraphs
    least true = omega arith
    least false = omega arith
