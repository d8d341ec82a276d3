-- The held words as bytes, over how many there are: how long they are, both ways round, and the words that are not stored.
use mathlib.Core.Path.{◌≡◌, refl, sym, ap, ap₂, ◌∙◌}
use mathlib.Core.Bool.{Bool, true, false}
use mathlib.Core.List.{List, [], ◌∷◌, ◌++◌, append_assoc, append-nil}
use Prim.Native.Nat.{ℕ, zero, suc, ◌+◌, ◌*◌, ◌-◌, ◌^◌, ◌≤◌, ◌<◌}
use native.Mathlib.Omega.{arith}
use lib.Dec.{ltb}
use borrow.Author.Tests.{ltb-true, ltb-false}
use lib.ListN.{length, take, drop, replicate, set, length-append, length-replicate, take-append-drop, drop_of_length-le}
use lib.Seq.{append_snoc, set_at, take_at, drop_at, drop-append-add, get_or-append-add, length-take-le, drop-drop}
use Rattle.lists.specs.Bytes.{byte, part, put}
use Rattle.numbers.specs.Numbers.{Bytes, bytes_of, number, bytes_from}
use Rattle.numbers.proofs.NumberLaws.{number_bytes_lem, bytes_number, part_bytes, bytes_from_lem, number_low}
use Rattle.drive_bytes.specs.Layout.{held_bytes, held_word, words_at, held_at}

-- ---- how long they are
pub length_held : (held : List ℕ) (k n : ℕ) → length (held_bytes held k n) ≡ 8 * n
unfolding held_bytes bytes_of
length_held held k zero = refl
length_held held k (suc n) = omega (arith, length_held held (suc k) n)

pub length_at : (s : List ℕ) (k n : ℕ) → length (words_at s k n) ≡ n
unfolding words_at
length_at s k zero = refl
length_at s k (suc n) = ap suc (length_at s (suc k) n)

-- ---- from the state to bytes and back
part_behind : (x w : List ℕ) (a n : ℕ) → part (x ++ w) (length x + a) n ≡ part w a n
unfolding part
part_behind x w a n = ap (take n) (drop-append-add x w a)

-- word j of n, from word k on
word_back : (held : List ℕ) → ((i : ℕ) → byte held i < 2 ^ 64) → (k n j : ℕ) → j < n → number (part (held_bytes held k n) (8 * j) 8) ≡ byte held (k + j)
word_back held low k zero j h = absurd (omega arith)
word_back held low k (suc n) zero h =
    let z : k + 0 ≡ k = omega arith in
    let first : part (held_bytes held k (suc n)) 0 8 ≡ bytes_of 8 (byte held k) = unfold held_bytes part bytes_of in refl in
    rw z (ap number first ∙ number_bytes_lem 8 (byte held k) (low k))
word_back held low k (suc n) (suc j) h =
    let y : k + suc j ≡ suc k + j = omega arith in
    let x : 8 * suc j ≡ 8 + 8 * j = omega arith in
    let w : part (held_bytes held k (suc n)) (8 + 8 * j) 8 ≡ part (held_bytes held (suc k) n) (8 * j) 8 = unfold held_bytes bytes_of in part_behind (bytes_of 8 (byte held k)) (held_bytes held (suc k) n) (8 * j) 8 in
    rw (x, y) (ap number w ∙ word_back held low (suc k) n j (omega arith))

words_same : (s held : List ℕ) (k n : ℕ) → ((j : ℕ) → k ≤ j → j < k + n → held_word s j ≡ byte held j) → words_at s k n ≡ bytes_from held k n
unfolding words_at bytes_from
words_same s held k zero same = refl
words_same s held k (suc n) same = ap₂ (λ (x : ℕ) (l : List ℕ). x ∷ l) (same k (omega arith) (omega arith)) (words_same s held (suc k) n (λ j low high. same j (omega arith) (omega arith)))

-- the first n words of a state behind 32 bytes
pub words_back : (front held : List ℕ) → length front ≡ 32 → ((i : ℕ) → byte held i < 2 ^ 64) → (n : ℕ) → words_at (front ++ held_bytes held 0 n) 0 n ≡ bytes_from held 0 n
words_back front held size low n = words_same (front ++ held_bytes held 0 n) held 0 n same
  where
    same : (j : ℕ) → 0 ≤ j → j < 0 + n → held_word (front ++ held_bytes held 0 n) j ≡ byte held j
    same j l h =
        let z : 0 + j ≡ j = omega arith in
        ap number (ap (λ (a : ℕ). part (front ++ held_bytes held 0 n) (a + 8 * j) 8) (sym size) ∙ part_behind front (held_bytes held 0 n) (8 * j) 8)
        ∙ word_back held low 0 n j (omega arith) ∙ ap (byte held) z

-- a list in two parts, and a part of zeros
pub from_parts : (l : List ℕ) (a n m : ℕ) → bytes_from l a (n + m) ≡ bytes_from l a n ++ bytes_from l (a + n) m
unfolding bytes_from
from_parts l a zero m = let y : 0 + m ≡ m = omega arith in let z : a + 0 ≡ a = omega arith in rw (y, z)
from_parts l a (suc n) m =
    let y : suc n + m ≡ suc (n + m) = omega arith in
    let z : a + suc n ≡ suc a + n = omega arith in
    rw (y, z) (ap (λ (x : List ℕ). byte l a ∷ x) (from_parts l (suc a) n m))

from_zeros : (l : List ℕ) (a n : ℕ) → ((k : ℕ) → a ≤ k → byte l k ≡ 0) → bytes_from l a n ≡ replicate n 0
unfolding bytes_from
from_zeros l a zero z = refl
from_zeros l a (suc n) z = ap₂ (λ (x : ℕ) (y : List ℕ). x ∷ y) (z a (omega arith)) (from_zeros l (suc a) n (λ k h. z k (omega arith)))

-- words that are not stored are zero, so the state's words are all there
pub words_filled : (held : List ℕ) → length held ≡ 64 → (n : ℕ) → n ≤ 64 → ((k : ℕ) → n ≤ k → byte held k ≡ 0) → bytes_from held 0 n ++ replicate (64 - n) 0 ≡ held
words_filled held size n high zero_rest =
    let y : n + (64 - n) ≡ 64 = omega arith in
    let z : 0 + n ≡ n = omega arith in
    ap (λ (l : List ℕ). bytes_from held 0 n ++ l) (sym (ap (λ (a : ℕ). bytes_from held a (64 - n)) z ∙ from_zeros held n (64 - n) zero_rest))
    ∙ sym (from_parts held 0 n (64 - n)) ∙ ap (bytes_from held 0) y ∙ bytes_from_lem held 64 size

-- ---- the words that are not stored
pub zero_byte : (m j : ℕ) → byte (replicate m 0) j ≡ 0
zero_byte zero j = refl
zero_byte (suc m) zero = refl
zero_byte (suc m) (suc j) = zero_byte m j

pub words_rest : (s : List ℕ) (n k : ℕ) → n ≤ k → byte (held_at s n) k ≡ 0
words_rest s n k h =
    let z : k ≡ length (words_at s 0 n) + (k - n) = omega (arith, length_at s 0 n) in
    ap (byte (held_at s n)) z ∙ get_or-append-add (words_at s 0 n) (replicate (64 - n) 0) (k - n) 0 ∙ zero_byte (64 - n) (k - n)

pub length_all : (s : List ℕ) (n : ℕ) → n ≤ 64 → length (held_at s n) ≡ 64
length_all s n h = omega (arith, length-append (words_at s 0 n) (replicate (64 - n) 0), length_at s 0 n, length-replicate {A = ℕ} (64 - n) 0)

-- ---- from bytes to the state and back
word_at : (s : List ℕ) (k n j : ℕ) → j < n → (l : List ℕ) → byte (words_at s k n ++ l) j ≡ held_word s (k + j)
unfolding words_at
word_at s k zero j h l = absurd (omega arith)
word_at s k (suc n) zero h l = let z : k + 0 ≡ k = omega arith in rw z
word_at s k (suc n) (suc j) h l = let z : k + suc j ≡ suc k + j = omega arith in rw z (word_at s (suc k) n j (omega arith) l)

module _ (s : List ℕ) (bytes : Bytes s) where
  -- the bytes of word k, as long as they stand in s
  word_bytes : (k : ℕ) → 32 + 8 * k + 8 ≤ length s → bytes_of 8 (held_word s k) ≡ bytes_from s (32 + 8 * k) 8
  word_bytes k h = ap (λ (l : List ℕ). bytes_of 8 (number l)) (part_bytes s (32 + 8 * k) 8 h) ∙ bytes_number s bytes (32 + 8 * k) 8

  bytes_back : (held : List ℕ) (k n : ℕ) → ((j : ℕ) → k ≤ j → j < k + n → byte held j ≡ held_word s j) → 32 + 8 * (k + n) ≤ length s
      → held_bytes held k n ≡ bytes_from s (32 + 8 * k) (8 * n)
  unfolding held_bytes bytes_from
  bytes_back held k zero same h = refl
  bytes_back held k (suc n) same h =
      let x : 8 * suc n ≡ 8 + 8 * n = omega arith in
      let y : 32 + 8 * k + 8 ≡ 32 + 8 * suc k = omega arith in
      rw (x, from_parts s (32 + 8 * k) 8 (8 * n), y)
      (ap₂ (λ (l m : List ℕ). l ++ m)
      (ap (bytes_of 8) (same k (omega arith) (omega arith)) ∙ word_bytes k (omega arith))
      (bytes_back held (suc k) n (λ j low high. same j (omega arith) (omega arith)) (omega arith)))

  pub held_back : (n : ℕ) → 32 + 8 * n ≤ length s → held_bytes (held_at s n) 0 n ≡ bytes_from s 32 (8 * n)
  held_back n h =
      let z : 0 + n ≡ n = omega arith in
      bytes_back (held_at s n) 0 n (λ j low high. word_at s 0 n j (omega arith) (replicate (64 - n) 0) ∙ ap (held_word s) (let w : 0 + j ≡ j = omega arith in w)) (omega arith)

  -- each is below 2 ^ 64
  pub words_low : (n : ℕ) → 32 + 8 * n ≤ length s → (k : ℕ) → byte (held_at s n) k < 2 ^ 64
  words_low n h k = go (ltb k n) refl
    where
      go : (t : Bool) → ltb k n ≡ t → byte (held_at s n) k < 2 ^ 64
      go true e =
          let low = ltb-true k n e in
          let z : 0 + k ≡ k = omega arith in
          rw (word_at s 0 n k low (replicate (64 - n) 0), z, part_bytes s (32 + 8 * k) 8 (omega arith)) (number_low s bytes (32 + 8 * k) 8)
      go false e = omega (arith, words_rest s n k (ltb-false k n e))

-- ---- the loops: one word more is read, and one more is laid
word_more : (s : List ℕ) (k n : ℕ) → words_at s k (suc n) ≡ words_at s k n ++ (held_word s (k + n) ∷ [])
unfolding words_at
word_more s k zero = let z : k + 0 ≡ k = omega arith in rw z
word_more s k (suc n) = let z : k + suc n ≡ suc k + n = omega arith in rw z (ap (λ (l : List ℕ). held_word s k ∷ l) (word_more s (suc k) n))

pub read_next : (s : List ℕ) (k : ℕ) → k < 64 → set (held_at s k) k (held_word s k) ≡ held_at s (suc k)
read_next s k h =
    let z : 64 - k ≡ suc (64 - suc k) = omega arith in
    let y : 0 + k ≡ k = omega arith in
    rw (z, word_more s 0 k, y)
    (set_at (words_at s 0 k) 0 (replicate (64 - suc k) 0) (held_word s k) k (length_at s 0 k)
    ∙ sym (append_snoc (words_at s 0 k) (held_word s k) (replicate (64 - suc k) 0)))

bytes_more : (held : List ℕ) (k n : ℕ) → held_bytes held k (suc n) ≡ held_bytes held k n ++ bytes_of 8 (byte held (k + n))
unfolding held_bytes
bytes_more held k zero = let z : k + 0 ≡ k = omega arith in rw z (append-nil (bytes_of 8 (byte held k)))
bytes_more held k (suc n) =
    let z : k + suc n ≡ suc k + n = omega arith in
    rw z (ap (λ (l : List ℕ). bytes_of 8 (byte held k) ++ l) (bytes_more held (suc k) n) ∙ sym (append_assoc (bytes_of 8 (byte held k)) (held_bytes held (suc k) n) (bytes_of 8 (byte held (suc k + n)))))

-- the words below k are laid behind 32 bytes, and what stood behind them is still there
abbrev pub laid_to : List ℕ → List ℕ → ℕ → List ℕ
laid_to s held k = take 32 s ++ held_bytes held 0 k ++ drop (32 + 8 * k) s

pub lay_next : (s held : List ℕ) (k : ℕ) → 32 + 8 * suc k ≤ length s → put (laid_to s held k) (32 + 8 * k) 8 (bytes_of 8 (byte held k)) ≡ laid_to s held (suc k)
unfolding put
lay_next s held k h =
    let front = take 32 s ++ held_bytes held 0 k in
    let size : length front ≡ 32 + 8 * k = omega (arith, length-append (take 32 s) (held_bytes held 0 k), length-take-le 32 s (omega arith), length_held held 0 k) in
    let y : 0 + k ≡ k = omega arith in
    let x : 32 + 8 * k + 8 ≡ 32 + 8 * suc k = omega arith in
    let w = bytes_of 8 (byte held k) in
    let rest = drop (32 + 8 * k) s in
    rw (take_at front rest (32 + 8 * k) size, drop_at front rest (32 + 8 * k) size, drop-drop 8 (32 + 8 * k) s, x, bytes_more held 0 k, y)
    (sym (append_assoc front w (drop (32 + 8 * suc k) s)) ∙ ap (λ (l : List ℕ). l ++ drop (32 + 8 * suc k) s) (append_assoc (take 32 s) (held_bytes held 0 k) w))

-- none is laid, and all are
pub lay_start : (s held : List ℕ) → s ≡ laid_to s held 0
unfolding held_bytes
lay_start s held = rw (append-nil (take 32 s)) (sym (take-append-drop 32 s))

pub lay_end : (s held : List ℕ) (n : ℕ) → length s ≡ 32 + 8 * n → laid_to s held n ≡ take 32 s ++ held_bytes held 0 n
lay_end s held n e = ap (λ (l : List ℕ). take 32 s ++ held_bytes held 0 n ++ l) (drop_of_length-le s {i = 32 + 8 * n} (omega arith)) ∙ append-nil (take 32 s ++ held_bytes held 0 n)
