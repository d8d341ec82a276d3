-- A line that is not refused: none of its tests is met, so it belongs to one of the four groups, and none of its bytes lies beyond
-- address FFFFH.
use Rattle.std.proofs.Common.{◌≡◌, ℕ, ◌+◌, ◌≤◌, Bool, true, false, cond, not, eqb, ltb, is_none, Option, Some, None, Ok, Err, sym, refl, ◌∙◌, ltb-false}
use mathlib.Core.Bool.{false≢true}
use borrow.Author.Tests.{eqb-false}
use Rattle.load_header.specs.Header.{CODE, DATA, EXTRA, STACK}
use Rattle.gencmd_lines.specs.declared.Refusal.{Refusal}
use Rattle.gencmd_lines.specs.declared.Refusal.TheVariants.{Digits, Sum, OtherType, Beyond}
use Rattle.gencmd_lines.specs.Refusal.{first, refusing, unless}
use Rattle.gencmd_lines.specs.Line.{Line, addresses, count_of, address_of, is_spelled, sum_of, group_of_type, group_of, is_end, data_refusal, line_refusal}

pub first_parts : (a b : Option Refusal) → is_none (first a b) ≡ true → (is_none a ≡ true) × (is_none b ≡ true)
first_parts a b e = go (is_none a) refl e
  where
    go : (t : Bool) → is_none a ≡ t → is_none (cond t b a) ≡ true → (is_none a ≡ true) × (is_none b ≡ true)
    go true p f = (p, f)
    go false p f = absurd (false≢true (sym p ∙ f))

pub unmet : (why : Refusal) (met : Bool) → is_none (refusing why met) ≡ true → met ≡ false
unmet why true e = absurd (false≢true e)
unmet why false e = refl

-- ---- what an answer tells of the refusal
pub not_refused : {A : Type 0} (r : Option Refusal) (a : A) {b : A} → Ok b ≡ unless r a → is_none r ≡ true
not_refused None a e = refl
not_refused (Some why) a e = cc

pub is_refused : {A : Type 0} (r : Option Refusal) (a : A) {why : Refusal} → Err why ≡ unless r a → r ≡ Some why
is_refused None a e = cc
is_refused (Some w) a e = cc

-- neither test of a line that is not the end is met
data_unmet : (l : Line) → is_none (line_refusal l) ≡ true → is_end l ≡ false
    → (is_none (refusing OtherType (eqb (group_of l) 0)) ≡ true) × (is_none (refusing Beyond (ltb addresses (address_of l + count_of l))) ≡ true)
unfolding line_refusal data_refusal
data_unmet l e f =
    let spelled = first_parts (refusing Digits (not (is_spelled l))) _ e in
    let sums = first_parts (refusing Sum (not (eqb (sum_of l) 0))) _ spelled.1 in
    first_parts (refusing OtherType (eqb (group_of l) 0)) _ (rw f at sums.1)

pub line_within : (l : Line) → is_none (line_refusal l) ≡ true → is_end l ≡ false → address_of l + count_of l ≤ addresses
line_within l e f =
    ltb-false addresses (address_of l + count_of l) (unmet Beyond (ltb addresses (address_of l + count_of l)) (data_unmet l e f).1)

-- ---- what holds of the four groups holds of such a line's group
pub record OfEach (P : ℕ → Type 0) : Type 0 where
  pub code : P CODE
  pub «data» : P DATA
  pub extra : P EXTRA
  pub stack : P STACK

type_by : (P : ℕ → Type 0) → OfEach P → (t : ℕ) → (group_of_type t ≡ 0 → ⊥) → P (group_of_type t)
unfolding group_of_type
type_by P p t = go (eqb t 0x00) (eqb t 0x81) (eqb t 0x82) (eqb t 0x83) (eqb t 0x84)
  where
    go : (a b c d e : Bool) → (cond a CODE (cond b CODE (cond c DATA (cond d STACK (cond e EXTRA 0)))) ≡ 0 → ⊥)
        → P (cond a CODE (cond b CODE (cond c DATA (cond d STACK (cond e EXTRA 0)))))
    go true b c d e n = p.code
    go false true c d e n = p.code
    go false false true d e n = p.«data»
    go false false false true e n = p.stack
    go false false false false true n = p.extra
    go false false false false false n = absurd (n refl)

pub line_by : (P : ℕ → Type 0) → OfEach P → (l : Line) → is_none (line_refusal l) ≡ true → is_end l ≡ false → P (group_of l)
line_by P p l e f =
    type_by P p _ (eqb-false (group_of l) 0 (unmet OtherType (eqb (group_of l) 0) (data_unmet l e f).0))
