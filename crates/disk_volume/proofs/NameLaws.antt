-- Laws of names: what a stripped name is; a test that goes through names byte by byte is a test of each place, so that
-- the loops of names have the law of every other loop; what "same" and "like" tell.
use mathlib.Core.Path.{◌≡◌, refl, sym, ap, ap₂, ◌∙◌}
use mathlib.Core.Bool.{Bool, true, false, not, cond, ◌&&◌, ◌||◌, and-true, and-false, false≢true}
use mathlib.Core.List.{List, [], ◌∷◌, ◌++◌}
use Prim.Native.Nat.{ℕ, zero, suc, ◌+◌, ◌-◌, ◌*◌, ◌%◌, ◌^◌, ◌≤◌, ◌<◌}
use native.Mathlib.Numerals.{add-one}
use native.Mathlib.Decide.{ℕ_discrete}
use native.Mathlib.Omega.{arith}
use lib.Bits.{bit_and, and_block, and_mask}
use lib.Dec.{leb, eqb}
use lib.ListN.{length, replicate, take, drop}
use borrow.Author.Tests.{eq-eqb, ne_eqb, eqb-true}
use Rattle.lists.proofs.BoolLaws.{and_left, and_right}
use Rattle.lists.specs.Bounded.{every_from, every}
use Rattle.lists.specs.Bytes.{byte, part, all}
use Rattle.lists.proofs.PartLaws.{length_part}
use Rattle.numbers.specs.Numbers.{Bytes, number, bytes_from}
use Rattle.numbers.proofs.NumberLaws.{part_bytes, bytes_from_lem}
use Rattle.disk_volume.specs.Name.{strip, same, like, name_byte, good_name}

-- ---- a stripped name
pub length_strip : (l : List ℕ) → length (strip l) ≡ length l
unfolding strip
length_strip [] = refl
length_strip (x ∷ xs) = ap suc (length_strip xs)

pub byte_strip : (l : List ℕ) (k : ℕ) → byte (strip l) k ≡ byte l k % 128
unfolding strip
byte_strip [] k = refl
byte_strip (x ∷ xs) zero = refl
byte_strip (x ∷ xs) (suc k) = byte_strip xs k

pub strip_strip : (l : List ℕ) → strip (strip l) ≡ strip l
unfolding strip
strip_strip [] = refl
strip_strip (x ∷ xs) = let z : x % 128 % 128 ≡ x % 128 = omega arith in rw (z, strip_strip xs)

-- a part of a stripped name is the stripped part
strip_take : (n : ℕ) (l : List ℕ) → strip (take n l) ≡ take n (strip l)
unfolding strip
strip_take zero l = refl
strip_take (suc n) [] = refl
strip_take (suc n) (x ∷ xs) = ap (λ (w : List ℕ). x % 128 ∷ w) (strip_take n xs)

strip_drop : (n : ℕ) (l : List ℕ) → strip (drop n l) ≡ drop n (strip l)
unfolding strip
strip_drop zero l = refl
strip_drop (suc n) [] = refl
strip_drop (suc n) (x ∷ xs) = strip_drop n xs

pub strip_part : (l : List ℕ) (a n : ℕ) → strip (part l a n) ≡ part (strip l) a n
unfolding part
strip_part l a n = strip_take n (drop a l) ∙ ap (take n) (strip_drop a l)

-- ---- byte by byte is place by place
-- the places one further on
pub shift : (p : ℕ → Bool) (i n : ℕ) → every_from p (suc i) n ≡ every_from (λ k. p (suc k)) i n
unfolding every_from
shift p i zero = refl
shift p i (suc n) = rw (shift p (suc i) n)

-- any test f of two lists that asks p of each pair
module _ (f : List ℕ → List ℕ → Bool) (p : ℕ → ℕ → Bool) (none : f [] [] ≡ true) (more : (x y : ℕ) (xs ys : List ℕ) → f (x ∷ xs) (y ∷ ys) ≡ cond (p x y) (f xs ys) false) where
  by_places : (n : ℕ) (a b : List ℕ) → length a ≡ n → length b ≡ n → f a b ≡ every n (λ k. p (byte a k) (byte b k))
  unfolding every_from
  by_places zero [] [] d e = none
  by_places zero [] (y ∷ ys) d e = absurd (omega arith)
  by_places zero (x ∷ xs) b d e = absurd (omega arith)
  by_places (suc n) [] b d e = absurd (omega arith)
  by_places (suc n) (x ∷ xs) [] d e = absurd (omega arith)
  by_places (suc n) (x ∷ xs) (y ∷ ys) d e =
      let q : f xs ys ≡ every n (λ k. p (byte xs k) (byte ys k)) = by_places n xs ys (omega arith) (omega arith) in
      rw (more x y xs ys, q, shift (λ k. p (byte (x ∷ xs) k) (byte (y ∷ ys) k)) 0 n)

-- what the loops of names ask at place k
abbrev pub same_at : List ℕ → List ℕ → ℕ → Bool
same_at a b k = eqb (byte a k % 128) (byte b k % 128)

abbrev pub like_at : List ℕ → List ℕ → ℕ → Bool
like_at a p k = eqb (byte p k % 128) 63 || eqb (byte a k % 128) (byte p k % 128)

abbrev pub printable_at : List ℕ → ℕ → Bool
printable_at l k = leb 32 (byte l k % 128) && leb (byte l k % 128) 126

abbrev pub plain_at : List ℕ → ℕ → Bool
plain_at l k = not (eqb (byte l k % 128) 63)

pub same_places : (n : ℕ) (a b : List ℕ) → length a ≡ n → length b ≡ n → same (strip a) (strip b) ≡ every n (same_at a b)
unfolding same strip
same_places = by_places (λ a b. same (strip a) (strip b)) (λ x y. eqb (x % 128) (y % 128)) refl (λ x y xs ys. refl)

pub like_places : (n : ℕ) (a p : List ℕ) → length a ≡ n → length p ≡ n → like (strip a) (strip p) ≡ every n (like_at a p)
unfolding like strip
like_places = by_places (λ a b. like (strip a) (strip b)) (λ x y. eqb (y % 128) 63 || eqb (x % 128) (y % 128)) refl (λ x y xs ys. refl)

pub all_places : (q : ℕ → Bool) (n : ℕ) (l : List ℕ) → length l ≡ n → all q (strip l) ≡ every n (λ k. q (byte l k % 128))
unfolding all strip
all_places q n l d = by_places (λ a b. all q (strip a)) (λ x y. q (x % 128)) refl (λ x y xs ys. refl) n l l d d

-- two tests of each place, the second waived by t
waived : (t a b r s : Bool) → cond (a && (t || b)) (r && (t || s)) false ≡ (cond a r false && (t || cond b s false))
waived t false b r s = refl
waived true true b r s = refl
waived false true true r s = refl
waived false true false r s = sym (and-false r)

every_waived : (t : Bool) (a b : ℕ → Bool) (i n : ℕ) → every_from (λ k. a k && (t || b k)) i n ≡ (every_from a i n && (t || every_from b i n))
unfolding every_from
every_waived true a b i zero = refl
every_waived false a b i zero = refl
every_waived t a b i (suc n) =
    rw (every_waived t a b (suc i) n) (waived t (a i) (b i) (every_from a (suc i) n) (every_from b (suc i) n))

pub good_places : (n : ℕ) (pattern : Bool) (l : List ℕ) → length l ≡ n
    → good_name pattern (strip l) ≡ (every n (printable_at l) && (pattern || every n (plain_at l)) && not (eqb (byte l 0 % 128) 32))
unfolding good_name
good_places n pattern l d =
    rw (all_places (name_byte pattern) n l d, byte_strip l 0, every_waived pattern (printable_at l) (plain_at l) 0 n)

-- ---- a loop that looks at every place, whatever it finds: what it gathered so far, and what is still to be looked at
pub record Gathered (p : ℕ → Bool) (n : ℕ) (all : Bool) (i : ℕ) : Type 0 where
  pub rest : every n p ≡ (all && every_from p i (n - i))

gather : (all t rest : Bool) → (all && cond t rest false) ≡ ((all && t) && rest)
gather true true rest = refl
gather true false rest = refl
gather false t rest = refl

module _ {p : ℕ → Bool} {n : ℕ} where
  pub gathered_start : Gathered p n true 0
  gathered_start = record { rest = let z : n - 0 ≡ n = omega arith in rw z }

  pub gathered_next : {all : Bool} {i : ℕ} → Gathered p n all i → i < n → Gathered p n (all && p i) (i + 1)
  unfolding every_from
  gathered_next {all} {i} s h =
      let z : n - i ≡ suc (n - (i + 1)) = omega arith in
      record { rest = s.rest ∙ rw (z, add-one) (gather all (p i) (every_from p (suc i) (n - suc i))) }

  pub gathered_end : {all : Bool} {i : ℕ} → Gathered p n all i → n ≤ i → every n p ≡ all
  unfolding every_from
  gathered_end {all} {i} s h = let z : n - i ≡ 0 = omega arith in s.rest ∙ rw z (and-true all)

-- ---- the two sides of "and"
-- ---- what "same" and "like" tell
pub same_refl : (a : List ℕ) → same a a ≡ true
unfolding same
same_refl [] = refl
same_refl (x ∷ xs) = rw (eq-eqb x x refl) (same_refl xs)

pub same_true : (a b : List ℕ) → same a b ≡ true → a ≡ b
unfolding same
same_true [] [] e = refl
same_true [] (y ∷ ys) e = absurd (false≢true e)
same_true (x ∷ xs) [] e = absurd (false≢true e)
same_true (x ∷ xs) (y ∷ ys) e = go (eqb x y) refl e (same_true xs ys)
  where
    go : (t : Bool) → eqb x y ≡ t → cond t (same xs ys) false ≡ true → (same xs ys ≡ true → xs ≡ ys) → x ∷ xs ≡ y ∷ ys
    go true q f ih = rw (eqb-true x y q, ih f)
    go false q f ih = absurd (false≢true f)

-- a byte that is no wildcard
abbrev pub plain : ℕ → Bool
plain x = not (eqb x 63)

pub like_same : (a p : List ℕ) → all plain p ≡ true → like a p ≡ same a p
unfolding all like same
like_same [] [] e = refl
like_same [] (y ∷ ys) e = refl
like_same (x ∷ xs) [] e = refl
like_same (x ∷ xs) (y ∷ ys) e = go (eqb y 63) e (like_same xs ys)
  where
    go : (t : Bool) → cond (not t) (all plain ys) false ≡ true → (all plain ys ≡ true → like xs ys ≡ same xs ys) → cond (t || eqb x y) (like xs ys) false ≡ cond (eqb x y) (same xs ys) false
    go true f ih = absurd (false≢true f)
    go false f ih = rw (ih f)

all_weaken : (q r : ℕ → Bool) → ((x : ℕ) → q x ≡ true → r x ≡ true) → (l : List ℕ) → all q l ≡ true → all r l ≡ true
unfolding all
all_weaken q r w [] e = refl
all_weaken q r w (x ∷ xs) e = go (q x) refl e (all_weaken q r w xs)
  where
    go : (t : Bool) → q x ≡ t → cond t (all q xs) false ≡ true → (all q xs ≡ true → all r xs ≡ true) → cond (r x) (all r xs) false ≡ true
    go true h f ih = rw (w x h) (ih f)
    go false h f ih = absurd (false≢true f)

-- a name that is no pattern, taken as one
pub good_same : (a p : List ℕ) → good_name false p ≡ true → like a p ≡ same a p
unfolding good_name
good_same a p e = like_same a p (all_weaken (name_byte false) plain (λ x. and_right (leb 32 x && leb x 126) (plain x)) p (and_left (all (name_byte false) p) (not (eqb (byte p 0) 32)) e))

-- ---- names as numbers, several bytes at once
-- the bits of each byte but its top one are the stripped bytes
pub strip_number : (l : List ℕ) → Bytes l → bit_and (number l) (number (replicate (length l) 127)) ≡ number (strip l)
unfolding number strip
strip_number [] h = refl
strip_number (x ∷ xs) h =
    let m : ℕ = number (replicate (length xs) 127) in
    let e : x + 256 * number xs ≡ number xs * 2 ^ 8 + x = omega arith in
    let f : 127 + 256 * m ≡ m * 2 ^ 8 + 127 = omega arith in
    ap₂ bit_and e f ∙ and_block 8 (number xs) m x 127 (h 0) (omega arith)
    ∙ ap₂ (λ (y z : ℕ). y * 2 ^ 8 + z) (strip_number xs (λ k. h (suc k))) (and_mask x 7) ∙ omega arith

strip_bytes : (l : List ℕ) → Bytes (strip l)
strip_bytes l k = rw (byte_strip l k) (omega arith)

-- two numbers are the same where the lowest byte and the rest are
digit_same : (x y m n : ℕ) → x < 256 → y < 256 → eqb (x + 256 * m) (y + 256 * n) ≡ cond (eqb x y) (eqb m n) false
digit_same x y m n h k = elim (ℕ_discrete x y) [
  | yes e ↦ elim (ℕ_discrete m n) [
    | yes f ↦ eq-eqb (x + 256 * m) (y + 256 * n) (omega arith) ∙ sym (rw (eq-eqb x y e, eq-eqb m n f))
    | no f ↦ ne_eqb (x + 256 * m) (y + 256 * n) (λ g. f (omega arith)) ∙ sym (rw (eq-eqb x y e, ne_eqb m n f))
  ]
  | no e ↦ ne_eqb (x + 256 * m) (y + 256 * n) (λ g. e (omega arith)) ∙ sym (rw (ne_eqb x y e))
]

same_number : (a b : List ℕ) → length a ≡ length b → Bytes a → Bytes b → eqb (number a) (number b) ≡ same a b
unfolding number same
same_number [] [] e h k = refl
same_number [] (y ∷ ys) e h k = absurd (omega arith)
same_number (x ∷ xs) [] e h k = absurd (omega arith)
same_number (x ∷ xs) (y ∷ ys) e h k =
    digit_same x y (number xs) (number ys) (h 0) (k 0)
    ∙ ap (λ (t : Bool). cond (eqb x y) t false) (same_number xs ys (omega arith) (λ i. h (suc i)) (λ i. k (suc i)))

-- what is asked of the words from byte i on
abbrev pub word_same : List ℕ → List ℕ → ℕ → Bool
word_same a b i = eqb (number (strip (part a i 8))) (number (strip (part b i 8)))

-- eleven bytes are the first eight and the last eight, which share some
module _ (a b : List ℕ) (d : length a ≡ 11) (e : length b ≡ 11) where
  word_told : (i : ℕ) → i + 8 ≤ 11 → word_same a b i ≡ true → bytes_from (strip a) i 8 ≡ bytes_from (strip b) i 8
  word_told i h t =
      let n : length (strip (part a i 8)) ≡ length (strip (part b i 8)) =
      length_strip (part a i 8) ∙ length_part a i 8 (omega arith) ∙ sym (length_strip (part b i 8) ∙ length_part b i 8 (omega arith)) in
      let s : strip (part a i 8) ≡ strip (part b i 8) = same_true _ _ (sym (same_number (strip (part a i 8)) (strip (part b i 8)) n (strip_bytes _) (strip_bytes _)) ∙ t) in
      sym (strip_part a i 8 ∙ part_bytes (strip a) i 8 (rw (length_strip a) (omega arith))) ∙ s
      ∙ (strip_part b i 8 ∙ part_bytes (strip b) i 8 (rw (length_strip b) (omega arith)))

  words_whole : word_same a b 0 ≡ true → word_same a b 3 ≡ true → strip a ≡ strip b
  unfolding bytes_from
  words_whole p q =
      sym (bytes_from_lem (strip a) 11 (length_strip a ∙ d))
      ∙ ap₂ (λ (x y : List ℕ). x ++ drop 5 y) (word_told 0 (omega arith) p) (word_told 3 (omega arith) q)
      ∙ bytes_from_lem (strip b) 11 (length_strip b ∙ e)

  pub same_words : same (strip a) (strip b) ≡ cond (word_same a b 0) (word_same a b 3) false
  same_words = go (same (strip a) (strip b)) refl (word_same a b 0) (word_same a b 3) refl refl
    where
      word_is : strip a ≡ strip b → (i : ℕ) → word_same a b i ≡ true
      word_is s i = eq-eqb _ _ (ap number (strip_part a i 8 ∙ ap (λ (l : List ℕ). part l i 8) s ∙ sym (strip_part b i 8)))

      go : (t : Bool) → same (strip a) (strip b) ≡ t → (p q : Bool) → word_same a b 0 ≡ p → word_same a b 3 ≡ q → same (strip a) (strip b) ≡ cond (word_same a b 0) (word_same a b 3) false
      go true s p q x y = let k = same_true (strip a) (strip b) s in rw (s, word_is k 0, word_is k 3)
      go false s true true x y = absurd (false≢true (sym s ∙ ap (same (strip a)) (sym (words_whole x y)) ∙ same_refl (strip a)))
      go false s true false x y = rw (s, x, y)
      go false s false q x y = rw (s, x)
