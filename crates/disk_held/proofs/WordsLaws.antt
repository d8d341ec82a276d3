-- The words of a set of blocks: words are settled by which blocks they hold, however many words there are.
use mathlib.Core.Path.{◌≡◌, refl, sym, ap, ◌∙◌}
use mathlib.Core.Bool.{Bool, true, false, cond}
use mathlib.Core.List.{List}
use Prim.Native.Nat.{ℕ, zero, suc, ◌+◌, ◌*◌, ◌/◌, ◌%◌, ◌^◌, ◌≤◌, ◌<◌}
use native.Mathlib.Nat.{div-eq_of_lt, mod-one, mod-eq_of_lt, pow-suc}
use native.Mathlib.Decide.{ℕ_discrete, dec_lt}
use native.Mathlib.Omega.{arith}
use lib.Bits.{bit_or, bit_xor}
use lib.Dec.{eqb}
use lib.ListN.{length, get_or, set, replicate, length-set, get_or-eq_default}
use lib.Pow.{high, low, pow_pos}
use lib.Seq.{get_or-set_same, get_or-set_other, set_out, ext_get_or}
use Rattle.disk_held.specs.Held.{word_bits, held_words, room, digit, holds, hold, release, word_of, words_from, words_of, none_held}
use Rattle.disk_held.proofs.Bits.{set_bit_lt, clear_bit_lt, low_bits, one_more_bit}
use Rattle.disk_held.proofs.HoldLaws.{digit_of_lem, digit_holds, holds_hold_same, holds_hold_other}

-- ---- the words of a state
pub record Words (held : List ℕ) : Type 0 where
  pub size : length held ≡ held_words
  pub small : (i : ℕ) → get_or held i 0 < 2 ^ 64

words_set : (held : List ℕ) (i w : ℕ) → Words held → w < 2 ^ 64 → Words (set held i w)
words_set held i w t l = record {
  size = length-set held i w ∙ t.size;
  small = λ j. elim (ℕ_discrete j i) [
    | yes e ↦ elim (dec_lt i (length held)) [
      | yes h ↦ rw (e, get_or-set_same held i w 0 h) l
      | no h ↦ rw (set_out held i w (omega arith)) (t.small j)
    ]
    | no n ↦ rw (get_or-set_other held i j w 0 n) (t.small j)
  ];
}

zeros_at : (n i : ℕ) → ◌≡◌ {A = ℕ} (get_or (replicate n 0) i 0) 0
zeros_at zero i = refl
zeros_at (suc n) zero = refl
zeros_at (suc n) (suc i) = zeros_at n i

pub words_none : Words none_held
words_none = record { size = refl; small = λ i. rw (zeros_at held_words i) (omega arith) }

pub words_hold : (held : List ℕ) (b : ℕ) → Words held → Words (hold held b)
unfolding hold
words_hold held b t =
    words_set held (b / 64) (bit_or (get_or held (b / 64) 0) (2 ^ (b % 64))) t (set_bit_lt (get_or held (b / 64) 0) (b % 64) (t.small (b / 64)) (omega arith))

pub words_release : (held : List ℕ) (b : ℕ) → Words held → Words (release held b)
unfolding release
words_release held b t =
    words_set held (b / 64) (bit_xor (bit_or (get_or held (b / 64) 0) (2 ^ (b % 64))) (2 ^ (b % 64))) t (clear_bit_lt (get_or held (b / 64) 0) (b % 64) (t.small (b / 64)) (omega arith))

-- ---- one word of a set
flag_lt : (t : Bool) → cond t 1 0 < 2
flag_lt true = omega arith
flag_lt false = omega arith

flag_one : (t : Bool) → eqb (cond t 1 0) 1 ≡ t
flag_one true = refl
flag_one false = refl

module _ (p : ℕ → Bool) (a : ℕ) where
  word_lt : (k : ℕ) → word_of p a k < 2 ^ k
  unfolding word_of
  word_lt zero = omega arith
  word_lt (suc k) = go (p (a + k)) (word_lt k)
    where
      go : (t : Bool) → word_of p a k < 2 ^ k → cond t 1 0 * 2 ^ k + word_of p a k < 2 ^ suc k
      go true h = omega (arith, pow-suc 2 k)
      go false h = omega (arith, pow-suc 2 k)

  word_bit : (k j : ℕ) → j < k → word_of p a k / 2 ^ j % 2 ≡ cond (p (a + j)) 1 0
  unfolding word_of
  word_bit zero j h = absurd (omega arith)
  word_bit (suc k) j h =
      let x : ℕ = cond (p (a + k)) 1 0 in
      let r : ℕ = word_of p a k in
      elim (ℕ_discrete j k) [
        | yes e ↦ rw (e, high x k (word_lt k)) (mod-eq_of_lt (flag_lt (p (a + k))))
        | no n ↦
            sym (low_bits (x * 2 ^ k + r) k j (omega arith))
            ∙ ap (λ (y : ℕ). y / 2 ^ j % 2) (low x k (word_lt k))
            ∙ word_bit k j (omega arith)
      ]

  -- a number whose lowest k bits are the set's
  word_is : (w k : ℕ) → ((j : ℕ) → j < k → cond (p (a + j)) 1 0 ≡ w / 2 ^ j % 2) → word_of p a k ≡ w % 2 ^ k
  unfolding word_of
  word_is w zero h = sym (mod-one w)
  word_is w (suc k) h =
      let r = word_is w k (λ j l. h j (omega arith)) in
      rw (h k (omega arith), r) (sym (one_more_bit w k))

-- ---- n words of a set, from block a on
module _ (p : ℕ → Bool) where
  length_from : (a n : ℕ) → length (words_from p a n) ≡ n
  unfolding words_from
  length_from a zero = refl
  length_from a (suc n) = ap suc (length_from (a + 64) n)

  word_at : (a n q : ℕ) → q < n → get_or (words_from p a n) q 0 ≡ word_of p (a + 64 * q) 64
  unfolding words_from
  word_at a zero q h = absurd (omega arith)
  word_at a (suc n) zero h = let z : a ≡ a + 64 * 0 = omega arith in ap (λ (x : ℕ). word_of p x 64) z
  word_at a (suc n) (suc q) h =
      let z : a + 64 + 64 * q ≡ a + 64 * suc q = omega arith in
      word_at (a + 64) n q (omega arith) ∙ ap (λ (x : ℕ). word_of p x 64) z

  -- of block 0 on
  first_at_lem : (n q : ℕ) → q < n → get_or (words_from p 0 n) q 0 ≡ word_of p (64 * q) 64
  first_at_lem n q h = let z : 0 + 64 * q ≡ 64 * q = omega arith in word_at 0 n q h ∙ ap (λ (x : ℕ). word_of p x 64) z

  small_at : (n i : ℕ) → get_or (words_from p 0 n) i 0 < 2 ^ 64
  small_at n i = elim (dec_lt i n) [
    | yes h ↦ rw (first_at_lem n i h) (word_lt p (64 * i) 64)
    | no h ↦ rw (get_or-eq_default (words_from p 0 n) 0 {n = i} (omega (arith, length_from 0 n))) (omega arith)
  ]

  holds_first : (n b : ℕ) → b < 64 * n → holds (words_from p 0 n) b ≡ p b
  unfolding holds digit
  holds_first n b h =
      let e : 64 * (b / 64) + b % 64 ≡ b = omega arith in
      rw (first_at_lem n (b / 64) (omega arith), word_bit p (64 * (b / 64)) 64 (b % 64) (omega arith), e) (flag_one (p b))

  -- n words are those of the set of the blocks that they hold
  module _ (n : ℕ) (held : List ℕ) (size : length held ≡ n) (small : (i : ℕ) → get_or held i 0 < 2 ^ 64) (same : (b : ℕ) → b < 64 * n → holds held b ≡ p b) where
    each_word : (q : ℕ) → q < n → get_or held q 0 ≡ word_of p (64 * q) 64
    each_word q l = sym (word_is p (64 * q) (get_or held q 0) 64 (λ j h. flag j h) ∙ mod-eq_of_lt (small q))
      where
        flag : (j : ℕ) → j < 64 → cond (p (64 * q + j)) 1 0 ≡ get_or held q 0 / 2 ^ j % 2
        flag j h = rw (← same (64 * q + j) (omega arith), digit_holds held (64 * q + j)) (digit_of_lem held q j h)

    words_from_lem : held ≡ words_from p 0 n
    words_from_lem =
        ext_get_or 0 held (words_from p 0 n) (size ∙ sym (length_from 0 n)) (λ q h.
        let l : q < n = omega (arith, size) in
        each_word q l ∙ sym (first_at_lem n q l))

-- ---- the words that a state has of a set
pub length_words : (p : ℕ → Bool) → length (words_of p) ≡ held_words
unfolding words_of
length_words p = length_from p 0 held_words

pub words_words : (p : ℕ → Bool) → Words (words_of p)
unfolding words_of
words_words p = record { size = length_words p; small = small_at p held_words }

pub holds_words : (p : ℕ → Bool) (b : ℕ) → b < word_bits * held_words → holds (words_of p) b ≡ p b
unfolding words_of
holds_words p b h = holds_first p held_words b h

pub holds_none : (b : ℕ) → holds none_held b ≡ false
unfolding holds digit
holds_none b = rw (zeros_at held_words (b / 64), div-eq_of_lt (pow_pos (b % 64)))

-- words are those of the set of the blocks that they hold
pub words_are : (p : ℕ → Bool) (held : List ℕ) → Words held → ((b : ℕ) → b < word_bits * held_words → holds held b ≡ p b) → held ≡ words_of p
unfolding words_of
words_are p held t same = words_from_lem p held_words held t.size t.small same

-- so two states with the same blocks have the same words
pub words_same : (held other : List ℕ) → Words held → Words other → ((b : ℕ) → b < word_bits * held_words → holds held b ≡ holds other b) → held ≡ other
words_same held other s t h = words_are (holds other) held s h ∙ sym (words_are (holds other) other t (λ b l. refl))

-- ---- the words of two sets that agree
pub words_ext : (p q : ℕ → Bool) → ((b : ℕ) → b < word_bits * held_words → p b ≡ q b) → words_of p ≡ words_of q
words_ext p q same = words_are q (words_of p) (words_words p) (λ b h. holds_words p b h ∙ same b h)

-- ---- the words of a set with one block more
pub hold_words : (p q : ℕ → Bool) (b : ℕ) → b < word_bits * held_words → q b ≡ true → ((c : ℕ) → (c ≡ b → ⊥) → p c ≡ q c) → hold (words_of p) b ≡ words_of q
hold_words p q b h in-q other = words_are q (hold (words_of p) b) (words_hold (words_of p) b (words_words p)) each
  where
    low : b < room (words_of p)
    low = omega (arith, length_words p)

    each : (c : ℕ) → c < word_bits * held_words → holds (hold (words_of p) b) c ≡ q c
    each c l = elim (ℕ_discrete c b) [
      | yes e ↦ ap (holds (hold (words_of p) b)) e ∙ holds_hold_same (words_of p) b low ∙ sym (ap q e ∙ in-q)
      | no n ↦ holds_hold_other (words_of p) b low c n ∙ holds_words p c l ∙ other c n
    ]

-- ---- words of which the first n alone hold a block
pub record FirstWords (n : ℕ) (held : List ℕ) : Type 0 where
  pub words : Words held
  pub rest : (k : ℕ) → n ≤ k → get_or held k 0 ≡ 0

pub first_none : (n : ℕ) → FirstWords n none_held
first_none n = record { words = words_none; rest = λ k h. zeros_at held_words k }

-- the word of one of their blocks becomes w
rest_set : (n : ℕ) (held : List ℕ) (b w : ℕ) → b < word_bits * n → FirstWords n held → (k : ℕ) → n ≤ k → get_or (set held (b / 64) w) k 0 ≡ 0
rest_set n held b w low t k h = get_or-set_other held (b / 64) k w 0 (λ e. omega arith) ∙ t.rest k h

pub first_hold : (n : ℕ) (held : List ℕ) (b : ℕ) → b < word_bits * n → FirstWords n held → FirstWords n (hold held b)
unfolding hold
first_hold n held b low t = record { words = words_hold held b t.words; rest = rest_set n held b _ low t }

pub first_release : (n : ℕ) (held : List ℕ) (b : ℕ) → b < word_bits * n → FirstWords n held → FirstWords n (release held b)
unfolding release
first_release n held b low t = record { words = words_release held b t.words; rest = rest_set n held b _ low t }

-- those of a set without a block behind theirs
word_none : (p : ℕ → Bool) (a : ℕ) → ((b : ℕ) → a ≤ b → p b ≡ false) → (k : ℕ) → word_of p a k ≡ 0
unfolding word_of
word_none p a none zero = refl
word_none p a none (suc k) = rw (none (a + k) (omega arith)) (omega (arith, word_none p a none k))

pub first_words : (n : ℕ) (p : ℕ → Bool) → ((b : ℕ) → word_bits * n ≤ b → p b ≡ false) → FirstWords n (words_of p)
unfolding words_of
first_words n p none = record { words = words_words p; rest = rest }
  where
    rest : (k : ℕ) → n ≤ k → get_or (words_from p 0 held_words) k 0 ≡ 0
    rest k h = elim (dec_lt k held_words) [
      | yes l ↦ first_at_lem p held_words k l ∙ word_none p (64 * k) (λ b low. none b (omega arith)) 64
      | no l ↦ get_or-eq_default (words_from p 0 held_words) 0 {n = k} (omega (arith, length_from p 0 held_words))
    ]
