-- The lines of a text place by place: what a walk over the text sees. A walk stands on a colon or at the text's end.
use Rattle.std.proofs.Common.{◌≡◌, ℕ, zero, suc, ◌+◌, ◌-◌, ◌<◌, ◌≤◌, min, Bool, true, false, cond, eqb, Some, List, [], ◌∷◌, length, take, drop, sym, refl, ap, ◌∙◌, add-one, arith, length-drop, drop_of_length-le, take_all, drop-cons, drop-drop}
use native.Mathlib.Decide.{dec_lt}
use Rattle.lists.specs.Bytes.{byte}
use Rattle.lists.specs.Bounded.{low_from}
use Rattle.lists.proofs.BoundedLaws.{low_le, low_hit}
use Rattle.gencmd_lines.specs.Line.{Line, digits_in}
use Rattle.gencmd_lines.specs.Lines.{colon, lines_from}
use Rattle.gencmd_lines.specs.CodeWalk.{is_colon, next_colon, next_line, behind, lines_at}

-- a line as the code lends it: the text behind place p
abbrev pub lent_line : List ℕ → ℕ → Line
lent_line t p = take (length t - (p + 1)) (drop (p + 1) t)

lent : (t : List ℕ) (p : ℕ) → lent_line t p ≡ drop (p + 1) t
lent t p = let k : length (drop (p + 1) t) ≤ length t - (p + 1) = rw length-drop (omega arith) in take_all (length t - (p + 1)) (drop (p + 1) t) k

-- the bytes that belong to the line before are passed over
skip : (k : ℕ) (s : List ℕ) → lines_from k s ≡ lines_from 0 (drop k s)
unfolding lines_from
skip zero s = refl
skip (suc k) [] = refl
skip (suc k) (c ∷ s) = skip k s

a_line : (c : ℕ) (s : List ℕ) → eqb c colon ≡ true → lines_from 0 (c ∷ s) ≡ s ∷ lines_from (digits_in s) s
unfolding lines_from
a_line c s e = rw e

module _ (t : List ℕ) (p : ℕ) where
  pub lines_end : length t ≤ p → lines_at t p ≡ []
  unfolding lines_from
  lines_end h = rw (drop_of_length-le t h)

  other : p < length t → is_colon t p ≡ false → lines_at t p ≡ lines_at t (suc p)
  unfolding lines_from
  other h e = rw (drop-cons t p 0 h, e)

  here : p < length t → is_colon t p ≡ true → lines_at t p ≡ drop (p + 1) t ∷ lines_at t (p + 1 + digits_in (drop (p + 1) t))
  here h e =
      ap (lines_from 0) (drop-cons t p 0 h ∙ ap (λ (k : ℕ). byte t p ∷ drop k t) (sym (add-one p)))
      ∙ a_line (byte t p) (drop (p + 1) t) e
      ∙ ap (λ (ls : List Line). drop (p + 1) t ∷ ls) (skip (digits_in (drop (p + 1) t)) (drop (p + 1) t) ∙ ap (lines_from 0) (drop-drop (digits_in (drop (p + 1) t)) (p + 1) t))

-- behind the end of the text there is as little as at its end
cut : (t : List ℕ) (n : ℕ) → lines_at t n ≡ lines_at t (min n (length t))
cut t n = go (dec_lt n (length t))
  where
    go : Dec (n < length t) → lines_at t n ≡ lines_at t (min n (length t))
    go (yes h) = let z : min n (length t) ≡ n = omega arith in rw z
    go (no h) = lines_end t n (omega arith) ∙ sym (lines_end t (min n (length t)) (omega arith))

-- the text up to the next colon is ignored
to_low : (t : List ℕ) (i k : ℕ) → i + k ≡ length t → lines_at t i ≡ lines_at t (low_from (is_colon t) i k)
unfolding low_from
to_low t i zero e = refl
to_low t i (suc k) e = go (is_colon t i) refl (to_low t (suc i) k (omega arith))
  where
    go : (b : Bool) → is_colon t i ≡ b → lines_at t (suc i) ≡ lines_at t (low_from (is_colon t) (suc i) k) → lines_at t i ≡ lines_at t (cond b i (low_from (is_colon t) (suc i) k))
    go true q ih = refl
    go false q ih = other t i (omega arith) q ∙ ih

low_from_lem : (p : ℕ → Bool) (i k : ℕ) → i ≤ low_from p i k
unfolding low_from
low_from_lem p i zero = omega arith
low_from_lem p i (suc k) = go (p i) (low_from_lem p (suc i) k)
  where
    go : (b : Bool) → suc i ≤ low_from p (suc i) k → i ≤ cond b i (low_from p (suc i) k)
    go true h = omega arith
    go false h = omega arith

-- where a walk stands: on a colon, or at the end of the text
pub record Walk (t : List ℕ) (at : ℕ) : Type 0 where
  pub within : at ≤ length t
  pub stands : at < length t → is_colon t at ≡ true

module _ (t : List ℕ) (from : ℕ) (h : from ≤ length t) where
  pub lines_next_colon : lines_at t from ≡ lines_at t (next_colon t from)
  unfolding next_colon
  lines_next_colon = to_low t from (length t - from) (omega arith)

  pub next_colon_walk : Walk t (next_colon t from)
  unfolding next_colon
  next_colon_walk =
      let k = low_le (is_colon t) from (length t - from) in
      record { within = omega arith; stands = λ m. (low_hit (is_colon t) from (length t - from) _ refl (omega arith)).passes }

module _ (t : List ℕ) (at : ℕ) (w : Walk t at) (h : at < length t) where
  pub lines_here : lines_at t at ≡ lent_line t at ∷ lines_at t (next_line t at)
  unfolding next_line
  lines_here =
      here t at h (w.stands h)
      ∙ ap (λ (ls : List Line). drop (at + 1) t ∷ ls) (cut t (at + 1 + digits_in (drop (at + 1) t)) ∙ lines_next_colon t _ (omega arith))
      ∙ ap (λ (l : Line). l ∷ lines_at t (next_line t at)) (sym (lent t at))

-- where the text ends, so does the search
pub next_colon_end : (t : List ℕ) → next_colon t (length t) ≡ length t
unfolding next_colon low_from
next_colon_end t = let z : length t - length t ≡ 0 = omega arith in rw z

-- behind a line stand the lines from the next colon on
pub lines_behind : (t : List ℕ) (at : ℕ) → lines_at t (behind t (Some at)) ≡ lines_at t (next_line t at)
unfolding next_line
lines_behind t at = lines_next_colon t (behind t (Some at)) (omega arith)

-- the next line's place, as the code works it out
pub next_line_by : (t : List ℕ) (at n from : ℕ) → n ≡ digits_in (lent_line t at) → from ≡ min (at + 1 + n) (length t) → next_colon t from ≡ next_line t at
unfolding next_line
next_line_by t at n from e f = let whole : n ≡ digits_in (drop (at + 1) t) = e ∙ ap digits_in (lent t at) in rw (f, whole)

-- ---- the first of the lines from a place on, by the next colon
module _ (t : List ℕ) (p at : ℕ) (e : at ≡ next_colon t p) where
  pub left_none : length t ≤ at → lines_at t p ≡ []
  left_none h = go (dec_lt (length t) p)
    where
      go : Dec (length t < p) → lines_at t p ≡ []
      go (yes k) = lines_end t p (omega arith)
      go (no k) = lines_next_colon t p (omega arith) ∙ lines_end t (next_colon t p) (omega arith)

  not_before : p ≤ next_colon t p
  unfolding next_colon
  not_before = low_from_lem (is_colon t) p (length t - p)

  pub left_first : at < length t → lines_at t p ≡ lent_line t at ∷ lines_at t (next_line t at)
  left_first h =
      let k : p ≤ length t = omega (arith, not_before) in
      lines_next_colon t p k ∙ ap (lines_at t) (sym e) ∙ lines_here t at (rw e (next_colon_walk t p k)) h
