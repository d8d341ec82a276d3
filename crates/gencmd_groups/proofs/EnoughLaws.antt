-- No byte that a line gives is left out: it belongs to one of the four groups, and lies in the paragraphs of its group.
use mathlib.Core.Path.{◌≡◌, refl}
use mathlib.Core.Bool.{Bool, true, false, cond, ◌&&◌, ◌||◌, false≢true}
use mathlib.Core.List.{List, [], ◌∷◌}
use Prim.Native.Nat.{ℕ, ◌+◌, ◌*◌, ◌<◌}
use native.Mathlib.Omega.{arith}
use lib.Dec.{leb, ltb, eqb}
use borrow.Author.Tests.{ne_eqb, eqb-true}
use Rattle.memory_spans.specs.Span.{paragraph_bytes}
use Rattle.load_header.specs.Header.{CODE, DATA, EXTRA, STACK, page_paragraphs}
use Rattle.std.specs.Prelude.{is_none, None}
use Rattle.gencmd_lines.specs.Line.{Line, count_of, address_of, group_of, is_end, line_refusal}
use Rattle.gencmd_lines.specs.Lines.{lines_refusal, data_lines}
use Rattle.gencmd_lines.proofs.RefusalLaws.{first_parts, OfEach, line_by}
use Rattle.gencmd_groups.specs.Groups.{gives, given, reach_of, reaches, paragraphs, sizes_of}
use Rattle.gencmd_groups.specs.HighestByte.{Covers, Enough}
use Rattle.gencmd_groups.proofs.ReachLaws.{highest_byte}

-- ---- the paragraphs of a group have all of its reach
reach_inside : (least reach a : ℕ) → a < reach → a < paragraph_bytes * paragraphs least reach
reach_inside least reach a h = rw (ne_eqb reach 0 (λ e. omega arith)) (omega arith)

covers : (ls : List Line) (g least : ℕ) → Covers ls g (paragraphs least (reach_of ls g))
covers ls g least a e = reach_inside least (reach_of ls g) a ((highest_byte ls g).inside a e)

pub enough : (ls : List Line) → Enough ls (sizes_of (reaches ls))
unfolding sizes_of
enough ls =
    record {
      code = covers ls CODE (cond (eqb (reach_of ls DATA) 0) page_paragraphs 0);
      «data» = covers ls DATA page_paragraphs;
      extra = covers ls EXTRA 0;
      stack = covers ls STACK 0;
    }

-- ---- what holds of the four groups holds of every group that lines which are not refused give a byte
pub given_by : (P : ℕ → Type 0) → OfEach P → (ls : List Line) → is_none (lines_refusal ls) ≡ true → (g a : ℕ) → given (data_lines ls) g a ≡ true → P g
unfolding lines_refusal data_lines given
given_by P p [] e g a h = absurd (false≢true h)
given_by P p (l ∷ ls) e g a h = go (is_end l) refl (first_parts (line_refusal l) _ e) h (λ f. given_by P p ls f g a)
  where
    one : (t : Bool) → eqb (group_of l) g ≡ t → (t && (leb (address_of l) a && ltb a (address_of l + count_of l))) ≡ true → P (group_of l) → P g
    one true q f k = rw (eqb-true (group_of l) g q) at k
    one false q f k = absurd (false≢true f)

    either : (t u : Bool) → gives l g a ≡ t → given (data_lines ls) g a ≡ u → (t || u) ≡ true → P (group_of l) → (given (data_lines ls) g a ≡ true → P g) → P g
    either true u q r f k ih = one (eqb (group_of l) g) refl q k
    either false true q r f k ih = ih r
    either false false q r f k ih = absurd (false≢true f)

    go : (t : Bool) → is_end l ≡ t → (is_none (line_refusal l) ≡ true) × (is_none (cond t None (lines_refusal ls)) ≡ true)
        → given (cond t [] (l ∷ data_lines ls)) g a ≡ true → (is_none (lines_refusal ls) ≡ true → given (data_lines ls) g a ≡ true → P g) → P g
    go true q r f ih = absurd (false≢true f)
    go false q r f ih = either (gives l g a) (given (data_lines ls) g a) refl refl f (line_by P p l r.0 q) (ih r.1)
