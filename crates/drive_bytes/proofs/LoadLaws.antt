-- What code reads of a drive's bytes is what the layout says: the test of the bytes that must be zero, and how many words there are.
use mathlib.Core.Path.{◌≡◌, refl, sym, ap, ap₂, ◌∙◌}
use mathlib.Core.Bool.{Bool, true, false, not, cond, ◌&&◌, ◌||◌}
use mathlib.Core.List.{List, [], ◌∷◌, ◌++◌}
use Prim.Native.Nat.{ℕ, ◌+◌, ◌*◌, ◌≤◌}
use native.Mathlib.Decide.{ℕ_discrete}
use native.Mathlib.Omega.{arith}
use lib.Dec.{leb, eqb}
use lib.ListN.{length}
use borrow.Author.Tests.{eqb-true, eq-eqb, ne_eqb}
use Rattle.lists.specs.Bytes.{byte, part, all}
use Rattle.lists.proofs.BoolLaws.{and_left, and_right}
use Rattle.numbers.specs.Numbers.{number, bytes_from, zeros}
use Rattle.drive_bytes.specs.Layout.{stored_words, drive_bytes, blocks_at, laid_out, is_drive}
use Rattle.numbers.proofs.NumberLaws.{zeros_number, part_bytes}

-- ---- the bytes beside a search that is not kept
all_append : (p : ℕ → Bool) (l m : List ℕ) → all p (l ++ m) ≡ (all p l && all p m)
unfolding all
all_append p [] m = refl
all_append p (x ∷ l) m = go (p x) (all_append p l m)
  where
    go : (t : Bool) → all p (l ++ m) ≡ (all p l && all p m) → cond t (all p (l ++ m)) false ≡ (cond t (all p l) false && all p m)
    go true e = e
    go false e = refl

module _ (s : List ℕ) (size : 32 ≤ length s) where
  -- bytes 8 to 15 and 16 to 23 as words, where byte 8 is zero
  two_words : eqb (byte s 8) 0 ≡ true → (eqb (number (part s 8 8)) 0 && eqb (number (part s 16 8)) 0) ≡ zeros (part s 9 15)
  unfolding bytes_from all
  two_words e =
      let a : eqb (number (part s 8 8)) 0 ≡ zeros (bytes_from s 9 7) =
      sym (zeros_number (part s 8 8)) ∙ ap zeros (part_bytes s 8 8 (omega arith)) ∙ rw e in
      let b : eqb (number (part s 16 8)) 0 ≡ zeros (bytes_from s 16 8) =
      sym (zeros_number (part s 16 8)) ∙ ap zeros (part_bytes s 16 8 (omega arith)) in
      ap₂ (λ (x y : Bool). x && y) a b
      ∙ sym (all_append (λ k. eqb k 0) (bytes_from s 9 7) (bytes_from s 16 8))
      ∙ sym (ap zeros (part_bytes s 9 15 (omega arith)))

  pub idle_words : (not (eqb (byte s 8) 0) || (eqb (number (part s 8 8)) 0 && eqb (number (part s 16 8)) 0))
      ≡ (not (eqb (byte s 8) 0) || zeros (part s 9 15))
  idle_words = go (eqb (byte s 8) 0) refl
    where
      go : (t : Bool) → eqb (byte s 8) 0 ≡ t
          → (not t || (eqb (number (part s 8 8)) 0 && eqb (number (part s 16 8)) 0)) ≡ (not t || zeros (part s 9 15))
      go true e = two_words e
      go false e = refl

  -- the word from byte 24 on is that byte alone where the bytes behind it are zero
  pub spare_word : eqb (number (part s 24 8)) (byte s 24) ≡ zeros (part s 25 7)
  unfolding number bytes_from
  spare_word =
      ap (λ (l : List ℕ). eqb (number l) (byte s 24)) (part_bytes s 24 8 (omega arith))
      ∙ alone (byte s 24) (number (bytes_from s 25 7))
      ∙ sym (ap zeros (part_bytes s 25 7 (omega arith)) ∙ zeros_number (bytes_from s 25 7))
    where
      alone : (x n : ℕ) → eqb (x + 256 * n) x ≡ eqb n 0
      alone x n = elim (ℕ_discrete n 0) [
        | yes e ↦ eq-eqb (x + 256 * n) x (omega arith) ∙ sym (eq-eqb n 0 e)
        | no d ↦ ne_eqb (x + 256 * n) x (λ e. d (omega arith)) ∙ sym (ne_eqb n 0 d)
      ]

-- a drive has as many bytes as its T asks, at least 64, and is laid out as one
pub drive_whole : (s : List ℕ) → is_drive s ≡ true → length s ≡ drive_bytes (blocks_at s)
unfolding is_drive
drive_whole s e = eqb-true (length s) (drive_bytes (blocks_at s)) (and_left _ _ e)

pub drive_laid : (s : List ℕ) → is_drive s ≡ true → laid_out s ≡ true
unfolding is_drive
drive_laid s e = and_right (eqb (length s) (drive_bytes (blocks_at s))) (laid_out s) e

pub at_least : (t : ℕ) → 64 ≤ drive_bytes t
at_least t = go (leb t 256)
  where
    go : (x : Bool) → 64 ≤ cond x 64 544
    go true = omega arith
    go false = omega arith

pub drive_enough : (s : List ℕ) → is_drive s ≡ true → 64 ≤ length s
drive_enough s e = omega (arith, drive_whole s e, at_least (blocks_at s))

-- ---- how many words are stored
pub words_bytes : (t : ℕ) → drive_bytes t ≡ 32 + 8 * stored_words t
words_bytes t = go (leb t 256)
  where
    go : (x : Bool) → cond x 64 544 ≡ 32 + 8 * cond x 4 64
    go true = refl
    go false = refl

pub words_high : (t : ℕ) → stored_words t ≤ 64
words_high t = go (leb t 256)
  where
    go : (x : Bool) → cond x 4 64 ≤ 64
    go true = omega arith
    go false = omega arith

by_bytes : (t : ℕ) → cond (eqb (drive_bytes t) 64) 4 64 ≡ stored_words t
by_bytes t = go (leb t 256)
  where
    go : (x : Bool) → ◌≡◌ {A = ℕ} (cond (eqb (cond x 64 544) 64) 4 64) (cond x 4 64)
    go true = refl
    go false = refl

-- the words that code counts by the number of bytes are those of T, and fill the bytes behind the front
pub record Counted (size t n : ℕ) : Type 0 where
  pub stored : n ≡ stored_words t
  pub fill : size ≡ 32 + 8 * n
  pub few : n ≤ 64

pub counted : {size n : ℕ} (t : ℕ) → size ≡ drive_bytes t → n ≡ cond (eqb size 64) 4 64 → Counted size t n
counted {size} {n} t e h =
    let s : n ≡ stored_words t = h ∙ rw e (by_bytes t) in
    record { stored = s; fill = omega (arith, words_bytes t); few = omega (arith, words_high t) }

pub drive_words : {n : ℕ} (s : List ℕ) → is_drive s ≡ true → n ≡ cond (eqb (length s) 64) 4 64 → Counted (length s) (blocks_at s) n
drive_words s drive e = counted (blocks_at s) (drive_whole s drive) e
