-- Delete: "their blocks are free (numbers outside D to T-1 are passed over)".
use Rattle.std.specs.Prelude.{cond, List, [], ◌∷◌, ℕ, leb, ltb}
use Rattle.lists.specs.Bounded.{fold}
use Rattle.disk_geometry.specs.declared.Geometry.{Geometry}
use Rattle.disk_volume.specs.declared.Wanted.TheVariants.{Match, ReadOnlyMatch}
use Rattle.disk_geometry.specs.Geometry.{slots, inside, places}
use Rattle.disk_volume.specs.Entry.{Entry, block_in, matches}
use Rattle.disk_volume.specs.Directory.{slot_at, find_slot}
use Rattle.disk_held.specs.Held.{release}
use Rattle.call_answers.specs.declared.Refusal.TheVariants.{NoMatch, ReadOnly}
use Rattle.call_answers.specs.Refusal.{Test, test}

unfoldable pub delete_tests : Geometry → List ℕ → ℕ → List ℕ → List Test
delete_tests g v u pattern =
    test NoMatch (leb (slots g) (find_slot g v u pattern Match))
    ∷ test ReadOnly (ltb (find_slot g v u pattern ReadOnlyMatch) (slots g))
    ∷ []

-- the held blocks without the block of place p, without those of an entry, of slot i if it matches, of all slots that
-- match; what comes of it is said in `Freed`
unfoldable pub free_place : Geometry → Entry → List ℕ → ℕ → List ℕ
free_place g e held p = cond (inside g (block_in g e p)) (release held (block_in g e p)) held

unfoldable pub free_entry : Geometry → Entry → List ℕ → List ℕ
free_entry g e held = fold (free_place g e) held 0 (places g)

unfoldable pub free_slot : Geometry → List ℕ → ℕ → List ℕ → List ℕ → ℕ → List ℕ
free_slot g v u pattern held i = cond (matches u pattern (slot_at g v i)) (free_entry g (slot_at g v i) held) held

unfoldable pub free_matches : Geometry → List ℕ → ℕ → List ℕ → List ℕ → List ℕ
free_matches g v u pattern held = fold (free_slot g v u pattern) held 0 (slots g)
