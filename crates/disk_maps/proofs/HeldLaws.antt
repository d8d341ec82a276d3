-- The held blocks as inspection goes on: how one place more and one slot more change them, and what they tell of a place.
use mathlib.Core.Path.{◌≡◌, refl, sym, ◌∙◌}
use mathlib.Core.Bool.{Bool, true, false, not, ◌&&◌, ◌||◌, and-false, or-false, or-true}
use mathlib.Core.List.{List}
use Prim.Native.Nat.{ℕ, ◌+◌, ◌<◌}
use native.Mathlib.Decide.{ℕ_discrete}
use native.Mathlib.Omega.{arith}
use borrow.Author.Tests.{eq-eqb, ne_eqb, lt-leb}
use lib.Dec.{eqb}
use Rattle.lists.specs.Bounded.{any_from}
use Rattle.disk_geometry.specs.declared.Geometry.{Geometry}
use Rattle.disk_geometry.specs.Geometry.{lawful, slots, inside, places}
use Rattle.disk_volume.specs.Entry.{Entry, is_empty, block_in}
use Rattle.disk_volume.specs.Directory.{slot_at}
use Rattle.disk_geometry.proofs.GeometryLaws.{bounds}
use Rattle.disk_geometry.proofs.InsideLaws.{inside_low}
use Rattle.disk_held.specs.Held.{holds, hold, words_of, none_held}
use Rattle.disk_held.proofs.WordsLaws.{hold_words, words_none, holds_none, holds_words, words_are, words_ext}
use Rattle.disk_rules.specs.GoodSlot.{in_places, names_block, named_below, good_place}
use Rattle.disk_rules.specs.Named.{named, held_of}
use Rattle.disk_maps.specs.CodeHeldBelow.{held_below, held_up_to}
use Rattle.lists.proofs.AnyLaws.{any_more}

not_either : (x y : Bool) → not y && not x ≡ not (x || y)
not_either true true = refl
not_either true false = refl
not_either false true = refl
not_either false false = refl

-- ---- one place more
module _ (g : Geometry) (v : List ℕ) (i k : ℕ) where
  pub places_more : (e : Entry) (b : ℕ) → in_places g e (k + 1) b ≡ in_places g e k b || eqb (block_in g e k) b
  unfolding in_places
  places_more e b = any_more (λ p. eqb (block_in g e p) b) k

  -- a block that is not in place k
  other_block : (b : ℕ) → (block_in g (slot_at g v i) k ≡ b → ⊥) → held_up_to g v i k b ≡ held_up_to g v i (k + 1) b
  unfolding held_up_to
  other_block b n = rw (places_more (slot_at g v i) b, ne_eqb (block_in g (slot_at g v i) k) b n, or-false)

  -- a place with 0: no block at all is held by it
  zero_outside : lawful g ≡ true → (j : ℕ) → held_up_to g v i j 0 ≡ false
  unfolding held_up_to inside
  zero_outside good j = let d : 0 < g.directory_blocks = omega (arith, bounds g good) in rw (lt-leb g.directory_blocks 0 d)

  pub zero_place : lawful g ≡ true → block_in g (slot_at g v i) k ≡ 0 → words_of (held_up_to g v i k) ≡ words_of (held_up_to g v i (k + 1))
  zero_place good z = words_ext (held_up_to g v i k) (held_up_to g v i (k + 1)) (λ b h. each b (ℕ_discrete b 0))
    where
      each : (b : ℕ) → Dec (b ≡ 0) → held_up_to g v i k b ≡ held_up_to g v i (k + 1) b
      each b (yes e) = rw (e, zero_outside good k, zero_outside good (k + 1))
      each b (no n) = other_block b (λ q. n (sym q ∙ z))

  -- a place with a block from D to T-1
  now_held : (b : ℕ) → b ≡ block_in g (slot_at g v i) k → inside g b ≡ true → held_up_to g v i (k + 1) b ≡ true
  unfolding held_up_to
  now_held b e in_g = rw (in_g, places_more (slot_at g v i) b, eq-eqb (block_in g (slot_at g v i) k) b (sym e), or-true, or-true)

  pub block_place : lawful g ≡ true → (b : ℕ) → b ≡ block_in g (slot_at g v i) k → inside g b ≡ true
      → hold (words_of (held_up_to g v i k)) b ≡ words_of (held_up_to g v i (k + 1))
  block_place good b e in_g =
      hold_words (held_up_to g v i k) (held_up_to g v i (k + 1)) b (inside_low g good b in_g) (now_held b e in_g) (λ c n. other_block c (λ q. n (sym q ∙ sym e)))

  -- what the tests of a place tell
  pub zero_good : block_in g (slot_at g v i) k ≡ 0 → good_place g v i k ≡ true
  unfolding good_place
  zero_good z = rw (eq-eqb (block_in g (slot_at g v i) k) 0 z)

  pub place_test : lawful g ≡ true → (b : ℕ) → b ≡ block_in g (slot_at g v i) k → (b ≡ 0 → ⊥) → (held : List ℕ) → held ≡ words_of (held_up_to g v i k)
      → good_place g v i k ≡ inside g b && not (holds held b)
  unfolding good_place held_up_to
  place_test good b e n held w = rw (← e, ne_eqb b 0 n) (go (inside g b) refl)
    where
      go : (t : Bool) → inside g b ≡ t → t && not (in_places g (slot_at g v i) k b) && not (named_below g v i b) ≡ t && not (holds held b)
      go true q = rw (w, holds_words (held_up_to g v i k) b (inside_low g good b q), q) (not_either (named_below g v i b) (in_places g (slot_at g v i) k b))
      go false q = refl

-- ---- one slot more
module _ (g : Geometry) (v : List ℕ) (i : ℕ) where
  pub slots_more : (b : ℕ) → named_below g v (i + 1) b ≡ named_below g v i b || names_block g (slot_at g v i) b
  unfolding named_below
  slots_more b = any_more (λ j. names_block g (slot_at g v j) b) i

  pub no_places : words_of (held_below g v i) ≡ words_of (held_up_to g v i 0)
  unfolding held_below held_up_to in_places any_from
  no_places = words_ext (held_below g v i) (held_up_to g v i 0) (λ b h. rw or-false)

  pub empty_slot : is_empty (slot_at g v i) ≡ true → words_of (held_below g v i) ≡ words_of (held_below g v (i + 1))
  unfolding held_below names_block
  empty_slot e = words_ext (held_below g v i) (held_below g v (i + 1)) (λ b h. rw (slots_more b, e, or-false))

  pub full_slot : is_empty (slot_at g v i) ≡ false → words_of (held_up_to g v i (places g)) ≡ words_of (held_below g v (i + 1))
  unfolding held_below held_up_to names_block
  full_slot e = words_ext (held_up_to g v i (places g)) (held_below g v (i + 1)) (λ b h. rw (slots_more b, e))

-- ---- no slot, and all slots
module _ (g : Geometry) (v : List ℕ) where
  pub no_slots : none_held ≡ words_of (held_below g v 0)
  unfolding held_below named_below any_from
  no_slots = words_are (held_below g v 0) none_held words_none (λ b h. rw (holds_none b, and-false))

  pub all_slots : words_of (held_below g v (slots g)) ≡ held_of g v
  unfolding held_below held_of named
  all_slots = refl
