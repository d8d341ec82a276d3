-- What delete frees: a block is held afterwards exactly if it was held and no matching entry names it. So for each block
-- from D to T-1; "numbers outside D to T-1 are passed over", so they stay as they were. `free_matches` goes through slots and
-- places as code does; this says what comes of it. That it holds is `freed` in the proofs.
use Rattle.std.specs.Prelude.{◌≡◌, Bool, true, false, not, ◌&&◌, List, ℕ, ◌≤◌, length}
use Rattle.lists.specs.Bounded.{any}
use Rattle.disk_geometry.specs.declared.Geometry.{Geometry}
use Rattle.disk_geometry.specs.Geometry.{lawful, slots, inside}
use Rattle.disk_volume.specs.Entry.{matches}
use Rattle.disk_volume.specs.Directory.{slot_at}
use Rattle.disk_held.specs.Held.{held_words, holds}
use Rattle.disk_rules.specs.GoodSlot.{names_block}
use Rattle.call_delete.specs.Delete.{free_matches}

-- the entry in slot i matches and names block b
unfoldable pub match_names : Geometry → List ℕ → ℕ → List ℕ → ℕ → ℕ → Bool
match_names g v u pattern b i = matches u pattern (slot_at g v i) && names_block g (slot_at g v i) b

-- a matching entry names block b
abbrev pub named_by_match : Geometry → List ℕ → ℕ → List ℕ → ℕ → Bool
named_by_match g v u pattern b = any (slots g) (match_names g v u pattern b)

pub record Freed (g : Geometry) (v : List ℕ) (u : ℕ) (pattern held : List ℕ) : Type 0 where
  pub inside_blocks : (b : ℕ) → inside g b ≡ true
      → holds (free_matches g v u pattern held) b ≡ (holds held b && not (named_by_match g v u pattern b))
  pub other_numbers : (b : ℕ) → inside g b ≡ false → holds (free_matches g v u pattern held) b ≡ holds held b
  pub words : length (free_matches g v u pattern held) ≡ held_words

-- for any volume, user and pattern, and held blocks in a state's words
abbrev pub DeleteFrees : Type 0
DeleteFrees =
    (g : Geometry) → lawful g ≡ true → (v : List ℕ) (u : ℕ) → u ≤ 15
    → (pattern held : List ℕ) → length held ≡ held_words → Freed g v u pattern held
