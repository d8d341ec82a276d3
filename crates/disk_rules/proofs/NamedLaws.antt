-- The blocks that entries name, and the words that hold them: "the held blocks, which log-in alone works out".
use mathlib.Core.Path.{◌≡◌}
use mathlib.Core.Bool.{true, false, not, and-false}
use mathlib.Core.Logic.{◌≢◌}
use mathlib.Core.List.{List}
use Prim.Native.Nat.{ℕ, ◌*◌, ◌≤◌, ◌<◌}
use native.Mathlib.Omega.{arith}
use borrow.Author.Tests.{not-true, eqb-true, eq-eqb, le-ltb}
use lib.Dec.{eqb}
use Rattle.lists.proofs.BoolLaws.{and_parts}
use Rattle.lists.proofs.BoundedLaws.{any_true, any_intro}
use Rattle.disk_geometry.specs.declared.Geometry.{Geometry}
use Rattle.disk_geometry.specs.Geometry.{most_blocks, blocks, slots, inside, places}
use Rattle.disk_volume.specs.Entry.{is_empty, block_in}
use Rattle.disk_volume.specs.Directory.{slot_at}
use Rattle.disk_held.specs.Held.{word_bits, holds}
use Rattle.disk_held.proofs.WordsLaws.{Words, FirstWords, holds_words, words_words, first_words}
use Rattle.disk_rules.specs.GoodSlot.{in_places, names_block, named_below}
use Rattle.disk_rules.specs.Named.{named, held_of}
use Rattle.disk_rules.proofs.GoodLaws.{not_named_below}

-- ---- where a block is named
pub record NamedAt (g : Geometry) (v : List ℕ) (n b : ℕ) : Type 0 where
  pub slot : ℕ
  pub below : slot < n
  pub used : is_empty (slot_at g v slot) ≡ false
  pub place : ℕ
  pub in_map : place < places g
  pub is : block_in g (slot_at g v slot) place ≡ b

module _ (g : Geometry) (v : List ℕ) (n b : ℕ) where
  pub named_at : named_below g v n b ≡ true → NamedAt g v n b
  unfolding named_below names_block in_places
  named_at h =
      let s = any_true (λ j. names_block g (slot_at g v j) b) 0 n h in
      let e = slot_at g v s.place in
      let m = and_parts (not (is_empty e)) (in_places g e (places g) b) s.passes in
      let p = any_true (λ q. eqb (block_in g e q) b) 0 (places g) m.1 in
      record {
        slot = s.place;
        below = omega (arith, s.below);
        used = not-true _ m.0;
        place = p.place;
        in_map = omega (arith, p.below);
        is = eqb-true (block_in g e p.place) b p.passes;
      }

  pub at_named : NamedAt g v n b → named_below g v n b ≡ true
  unfolding named_below names_block in_places
  at_named a =
      let e = slot_at g v a.slot in
      let m : in_places g e (places g) b ≡ true = any_intro (λ q. eqb (block_in g e q) b) 0 (places g) a.place (omega arith) (omega (arith, a.in_map)) (eq-eqb (block_in g e a.place) b a.is) in
      any_intro (λ j. names_block g (slot_at g v j) b) 0 n a.slot (omega arith) (omega (arith, a.below)) (rw (a.used, m))

-- ---- the words
module _ (g : Geometry) (v : List ℕ) where
  pub holds_held : (b : ℕ) → b < most_blocks → holds (held_of g v) b ≡ named g v b
  unfolding held_of
  holds_held b h = holds_words (named g v) b h

  pub words_held : Words (held_of g v)
  unfolding held_of
  words_held = words_words (named g v)

  -- they stand in the first n words, where those have a bit for each block below T
  pub first_held : (n : ℕ) → blocks g ≤ word_bits * n → FirstWords n (held_of g v)
  unfolding held_of
  first_held n h = first_words n (named g v) none
    where
      none : (b : ℕ) → word_bits * n ≤ b → named g v b ≡ false
      none b l = unfold named inside in rw (le-ltb b (blocks g) (omega arith), and-false)

  -- a block from D to T-1 that isn't held is in no entry
  pub unnamed_nowhere : (b : ℕ) → inside g b ≡ true → named g v b ≡ false
      → (j : ℕ) → j < slots g → is_empty (slot_at g v j) ≡ false → (q : ℕ) → q < places g → block_in g (slot_at g v j) q ≢ b
  unfolding named
  unnamed_nowhere b in_g h = not_named_below g v (slots g) b (rw in_g at h)
