-- A line: its digits, its running sum, and how large its fields are.
use Rattle.std.proofs.Common.{◌≡◌, ℕ, suc, ◌+◌, ◌-◌, ◌*◌, ◌%◌, ◌<◌, ◌≤◌, Bool, true, false, cond, ◌&&◌, leb, length, refl, add-one, arith, le-leb, leb-true}
use Prim.Native.Char.{code}
use borrow.Author.Tests.{lt-leb}
use Rattle.lists.specs.Bytes.{byte}
use Rattle.lists.specs.Bounded.{every_from}
use Rattle.lists.proofs.BoolLaws.{and_parts}
use Rattle.gencmd_lines.specs.Digits.{is_figure, is_letter, digit_of, line_byte}
use Rattle.gencmd_lines.specs.Line.{Line, digits_in, digit_at, is_spelled, sum_from}

pub in_range : (a b c : ℕ) → (leb a c && leb c b) ≡ true → (a ≤ c) × (c ≤ b)
in_range a b c e =
    let p = and_parts (leb a c) (leb c b) e in
    (leb-true a c p.0, leb-true c b p.1)

-- ---- the digits
pub short_not_spelled : (l : Line) → length l < digits_in l → is_spelled l ≡ false
unfolding is_spelled
short_not_spelled l h = rw (lt-leb (digits_in l) (length l) h)

pub spelled_by : (l : Line) (t : Bool) → digits_in l ≤ length l → every_from (digit_at l) 0 (digits_in l - 0) ≡ t → is_spelled l ≡ t
unfolding is_spelled
spelled_by l t h e =
    let z : digits_in l - 0 ≡ digits_in l = omega arith in
    rw (le-leb (digits_in l) (length l) h) (rw z at e)

-- ---- the sum: what was added up so far, and what is still to be added
pub sum_next : (f : ℕ → ℕ) (n i : ℕ) → i < n → sum_from f i (n - i) ≡ f i + sum_from f (i + 1) (n - (i + 1))
unfolding sum_from
sum_next f n i h = let z : n - i ≡ suc (n - (i + 1)) = omega arith in rw (z, add-one)

pub sum_end : (f : ℕ → ℕ) (n i : ℕ) → n ≤ i → sum_from f i (n - i) ≡ 0
unfolding sum_from
sum_end f n i h = let z : n - i ≡ 0 = omega arith in rw z

-- one wrapping addition
pub mod_next : (r s x rest t : ℕ) → r ≡ (s + x) % 256 → (s + (x + rest)) % 256 ≡ t → (r + rest) % 256 ≡ t
mod_next r s x rest t e h = omega arith

-- ---- a byte is a byte
digit_small : (c : ℕ) → digit_of c < 16
unfolding digit_of
digit_small c = go (is_figure c) (is_letter c) refl refl
  where
    go : (t u : Bool) → is_figure c ≡ t → is_letter c ≡ u → cond t (c - code "0") (cond u (c - code "A" + 10) 0) < 16
    go true u e f = let h = in_range (code "0") (code "9") c e in omega arith
    go false true e f = let h = in_range (code "A") (code "F") c f in omega arith
    go false false e f = omega arith

pub byte_small : (l : Line) (k : ℕ) → line_byte l k < 256
unfolding line_byte
byte_small l k = omega (arith, digit_small (byte l (2 * k)), digit_small (byte l (2 * k + 1)))
