-- Delete frees the blocks that matching entries name, and no other: place by place, entry by entry, slot by slot.
use mathlib.Core.Path.{◌≡◌, refl, sym, ap, ◌∙◌}
use mathlib.Core.Bool.{Bool, true, false, not, cond, ◌&&◌}
use mathlib.Core.List.{List}
use Prim.Native.Nat.{ℕ, zero, suc, ◌≤◌, ◌<◌}
use native.Mathlib.Omega.{arith}
use lib.Dec.{eqb}
use lib.ListN.{length}
use borrow.Author.Tests.{eqb-true, eqb-false}
use Rattle.lists.specs.Bounded.{any_from, fold}
use Rattle.lists.proofs.BoundedLaws.{any_none}
use Rattle.disk_geometry.specs.declared.Geometry.{Geometry}
use Rattle.disk_geometry.specs.Geometry.{lawful, slots, inside, places}
use Rattle.disk_geometry.proofs.InsideLaws.{inside_low}
use Rattle.disk_volume.specs.Entry.{Entry, block_in, matches}
use Rattle.disk_volume.specs.Directory.{slot_at}
use Rattle.disk_held.specs.Held.{held_words, room, holds, release}
use Rattle.disk_held.proofs.HoldLaws.{length_release, holds_release_same, holds_release_other}
use Rattle.disk_rules.specs.GoodSlot.{in_places, names_block}
use Rattle.call_delete.specs.Delete.{free_place, free_entry, free_slot, free_matches}
use Rattle.call_delete.specs.Freed.{match_names, named_by_match, DeleteFrees}
use Rattle.call_delete.proofs.MatchLaws.{match_names_lem}

-- ---- what "and" and "not" make of a step's test
and_yes : (a : Bool) → a ≡ (a && true)
and_yes true = refl
and_yes false = refl

and_no : (a : Bool) → false ≡ (a && false)
and_no true = refl
and_no false = refl

not_met : (a t : Bool) → a ≡ (a && not (t && false))
not_met a true = and_yes a
not_met a false = and_yes a

split : (a x y : Bool) → ((a && not x) && not y) ≡ (a && not (cond x true y))
split true true y = refl
split true false y = refl
split false x y = refl

any_both : (t : Bool) (p : ℕ → Bool) (i k : ℕ) → any_from (λ m. t && p m) i k ≡ (t && any_from p i k)
any_both true p i k = refl
any_both false p i k = any_none (λ m. false && p m) i k (λ m low high. refl)

-- ---- a fold whose steps keep as many words, and whose step i frees block b if p i
fold_words : (step : List ℕ → ℕ → List ℕ) → ((h : List ℕ) (i : ℕ) → length h ≡ held_words → length (step h i) ≡ held_words)
    → (i k : ℕ) (h : List ℕ) → length h ≡ held_words → length (fold step h i k) ≡ held_words
unfolding fold
fold_words step words i zero h l = l
fold_words step words i (suc k) h l = fold_words step words (suc i) k (step h i) (words h i l)

module _ (b : ℕ) (step : List ℕ → ℕ → List ℕ) (p : ℕ → Bool)
    (words : (h : List ℕ) (i : ℕ) → length h ≡ held_words → length (step h i) ≡ held_words)
    (frees : (h : List ℕ) (i : ℕ) → length h ≡ held_words → holds (step h i) b ≡ (holds h b && not (p i))) where
  fold_frees : (i k : ℕ) (h : List ℕ) → length h ≡ held_words → holds (fold step h i k) b ≡ (holds h b && not (any_from p i k))
  unfolding fold any_from
  fold_frees i zero h l = and_yes (holds h b)
  fold_frees i (suc k) h l =
      fold_frees (suc i) k (step h i) (words h i l)
      ∙ ap (λ (t : Bool). t && not (any_from p (suc i) k)) (frees h i l)
      ∙ split (holds h b) (p i) (any_from p (suc i) k)

-- ---- as many words stay
module _ (g : Geometry) where
  place_words : (e : Entry) (h : List ℕ) (p : ℕ) → length h ≡ held_words → length (free_place g e h p) ≡ held_words
  unfolding free_place
  place_words e h p l = go (inside g (block_in g e p))
    where
      go : (t : Bool) → length (cond t (release h (block_in g e p)) h) ≡ held_words
      go true = length_release h (block_in g e p) ∙ l
      go false = l

  entry_words : (e : Entry) (h : List ℕ) → length h ≡ held_words → length (free_entry g e h) ≡ held_words
  unfolding free_entry
  entry_words e h l = fold_words (free_place g e) (place_words e) 0 (places g) h l

  slot_words : (v : List ℕ) (u : ℕ) (pattern h : List ℕ) (i : ℕ) → length h ≡ held_words → length (free_slot g v u pattern h i) ≡ held_words
  unfolding free_slot
  slot_words v u pattern h i l = go (matches u pattern (slot_at g v i))
    where
      go : (t : Bool) → length (cond t (free_entry g (slot_at g v i) h) h) ≡ held_words
      go true = entry_words (slot_at g v i) h l
      go false = l

  matches_words : (v : List ℕ) (u : ℕ) (pattern h : List ℕ) → length h ≡ held_words → length (free_matches g v u pattern h) ≡ held_words
  unfolding free_matches
  matches_words v u pattern h l = fold_words (free_slot g v u pattern) (slot_words v u pattern) 0 (slots g) h l

-- ---- block b, of which t says whether it is from D to T-1
module _ (g : Geometry) (law : lawful g ≡ true) (b : ℕ) (t : Bool) (range : inside g b ≡ t) where
  low : (h : List ℕ) → length h ≡ held_words → (c : ℕ) → inside g c ≡ true → c < room h
  low h l c q = omega (arith, inside_low g law c q, l)

  place_frees : (e : Entry) (h : List ℕ) (p : ℕ) → length h ≡ held_words
      → holds (free_place g e h p) b ≡ (holds h b && not (t && eqb (block_in g e p) b))
  unfolding free_place
  place_frees e h p l = go (eqb (block_in g e p) b) refl
    where
      here : (s : Bool) → inside g b ≡ s → holds (cond s (release h b) h) b ≡ (holds h b && not (s && true))
      here true q = holds_release_same h b (low h l b q) ∙ and_no (holds h b)
      here false q = and_yes (holds h b)

      there : (s : Bool) → inside g (block_in g e p) ≡ s → eqb (block_in g e p) b ≡ false
          → holds (cond s (release h (block_in g e p)) h) b ≡ holds h b
      there true q z = holds_release_other h (block_in g e p) (low h l (block_in g e p) q) b (λ y. eqb-false (block_in g e p) b z (sym y))
      there false q z = refl

      go : (s : Bool) → eqb (block_in g e p) b ≡ s
          → holds (cond (inside g (block_in g e p)) (release h (block_in g e p)) h) b ≡ (holds h b && not (t && s))
      go true z = rw (eqb-true (block_in g e p) b z, range) (here t range)
      go false z = there (inside g (block_in g e p)) refl z ∙ not_met (holds h b) t

  entry_frees : (e : Entry) (h : List ℕ) → length h ≡ held_words
      → holds (free_entry g e h) b ≡ (holds h b && not (t && in_places g e (places g) b))
  unfolding free_entry in_places
  entry_frees e h l =
      fold_frees b (free_place g e) (λ p. t && eqb (block_in g e p) b) (place_words g e) (place_frees e) 0 (places g) h l
      ∙ ap (λ (s : Bool). holds h b && not s) (any_both t (λ p. eqb (block_in g e p) b) 0 (places g))

  module _ (v : List ℕ) (u : ℕ) (u15 : u ≤ 15) (pattern : List ℕ) where
    slot_frees : (h : List ℕ) (i : ℕ) → length h ≡ held_words
        → holds (free_slot g v u pattern h i) b ≡ (holds h b && not (t && match_names g v u pattern b i))
    unfolding free_slot match_names
    slot_frees h i l = go (matches u pattern (slot_at g v i)) refl
      where
        go : (m : Bool) → matches u pattern (slot_at g v i) ≡ m
            → holds (cond m (free_entry g (slot_at g v i) h) h) b ≡ (holds h b && not (t && (m && names_block g (slot_at g v i) b)))
        go true m = rw (match_names_lem u u15 pattern (slot_at g v i) m g b) (entry_frees (slot_at g v i) h l)
        go false m = not_met (holds h b) t

    matches_freed : (h : List ℕ) → length h ≡ held_words
        → holds (free_matches g v u pattern h) b ≡ (holds h b && not (t && named_by_match g v u pattern b))
    unfolding free_matches
    matches_freed h l =
        fold_frees b (free_slot g v u pattern) (λ i. t && match_names g v u pattern b i) (slot_words g v u pattern) slot_frees 0 (slots g) h l
        ∙ ap (λ (s : Bool). holds h b && not s) (any_both t (match_names g v u pattern b) 0 (slots g))

pub freed : DeleteFrees
freed g law v u u15 pattern held l = record {
  inside_blocks = λ b range. matches_freed g law b true range v u u15 pattern held l;
  other_numbers = λ b range. matches_freed g law b false range v u u15 pattern held l ∙ sym (and_yes (holds held b));
  words = matches_words g v u pattern held l;
}
