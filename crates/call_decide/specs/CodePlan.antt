-- A write decided step by step, as code does it: the slot, the entry that grows there, the tests by both, the block.
use Rattle.std.specs.Prelude.{◌≡◌, Bool, not, cond, ◌&&◌, List, [], ◌∷◌, ℕ, leb, ltb, eqb}
use Rattle.disk_geometry.specs.declared.Geometry.{Geometry}
use Rattle.disk_volume.specs.declared.Wanted.{Wanted}
use Rattle.disk_volume.specs.declared.Wanted.TheVariants.{File, ReadOnlyFile}
use Rattle.disk_geometry.specs.Geometry.{slots, inside, place_of, blocks}
use Rattle.disk_volume.specs.Entry.{Entry}
use Rattle.disk_volume.specs.Directory.{find_slot}
use Rattle.disk_volume.specs.Record.{record_slot, record_block}
use Rattle.call_answers.specs.declared.Refusal.TheVariants.{NoFile, ReadOnly, Outside, NoSlot, NoBlock}
use Rattle.call_answers.specs.Refusal.{Test, test}
use Rattle.call_entry.specs.Alloc.{alloc}
use Rattle.call_decide.specs.Write.{write_slot, base_entry, needs_block, write_block}

-- the slot of the group's own entry, or else the lowest that has what is wanted
unfoldable pub own_or : Geometry → List ℕ → ℕ → List ℕ → ℕ → Wanted → ℕ
own_or g v u name own w = cond (ltb own (slots g)) own (find_slot g v u name w)

-- the slot whose entry a write takes after
unfoldable pub from_slot : Geometry → List ℕ → ℕ → List ℕ → ℕ → ℕ
from_slot g v u name n = own_or g v u name (record_slot g v u name n) File

-- the block that record n of entry e goes to
unfoldable pub block_for : Geometry → List ℕ → Entry → ℕ → ℕ
block_for g held e n = cond (eqb (record_block g e n) 0) (alloc g held e (place_of g n)) (record_block g e n)

-- 3, 38
unfoldable pub file_tests : Geometry → List ℕ → ℕ → List ℕ → ℕ → List Test
file_tests g v u name from =
    test NoFile (leb (slots g) from)
    ∷ test ReadOnly (ltb (find_slot g v u name ReadOnlyFile) (slots g))
    ∷ []

-- 41, 5, 2
unfoldable pub room_tests : Geometry → List ℕ → Entry → ℕ → ℕ → List Test
room_tests g held e slot n =
    test Outside (not (eqb (record_block g e n) 0) && not (inside g (record_block g e n)))
    ∷ test NoSlot (leb (slots g) slot)
    ∷ test NoBlock (eqb (record_block g e n) 0 && leb (blocks g) (alloc g held e (place_of g n)))
    ∷ []

-- what is decided where no test is met: slot, block, whether the block is newly taken, and the entry that grows
pub record Decided (g : Geometry) (held v : List ℕ) (u : ℕ) (name : List ℕ) (n slot block : ℕ) (fresh : Bool) (e : Entry)
    : Type 0 where
  pub slot_is : slot ≡ write_slot g v u name n
  pub block_is : block ≡ write_block g held v u name n
  pub fresh_is : fresh ≡ needs_block g v u name n
  pub entry_is : e ≡ base_entry g v u name n
