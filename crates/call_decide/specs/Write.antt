-- The writes: "a missing group gets the lowest empty slot, with bytes 0 to 11 of the file's lowest entry, s1 0 and a map
-- of zeros; a zero map place gets the lowest free block. The record's 128 bytes are stored." How an entry grows and which
-- block a place is given stand in `call_entry`.
use Rattle.std.specs.Prelude.{Bool, not, cond, ◌&&◌, List, [], ◌∷◌, ℕ, leb, ltb, eqb}
use Rattle.disk_geometry.specs.declared.Geometry.{Geometry}
use Rattle.disk_volume.specs.declared.Wanted.TheVariants.{Empty, File, ReadOnlyFile}
use Rattle.disk_geometry.specs.Geometry.{slots, inside, place_of, blocks}
use Rattle.disk_volume.specs.Entry.{Entry}
use Rattle.disk_volume.specs.Directory.{slot_at, find_slot}
use Rattle.disk_volume.specs.Record.{record_slot, record_block}
use Rattle.call_answers.specs.declared.Refusal.TheVariants.{NoFile, ReadOnly, Outside, NoSlot, NoBlock}
use Rattle.call_answers.specs.Refusal.{Test, test}
use Rattle.call_entry.specs.Alloc.{alloc}
use Rattle.call_entry.specs.Grown.{like_entry, written_entry}

module _ (g : Geometry) (v : List ℕ) (u : ℕ) (name : List ℕ) (n : ℕ) where
  -- record n's group has an entry
  abbrev pub has_group : Bool
  has_group = ltb (record_slot g v u name n) (slots g)

  -- the slot that is written, and the entry that grows there
  unfoldable pub write_slot : ℕ
  write_slot = cond has_group (record_slot g v u name n) (find_slot g v u name Empty)

  unfoldable pub base_entry : Entry
  base_entry = cond has_group (slot_at g v (record_slot g v u name n)) (like_entry (slot_at g v (find_slot g v u name File)))

  -- the place has no block yet
  unfoldable pub needs_block : Bool
  needs_block = eqb (record_block g base_entry n) 0

  -- function 40: "a block given for the first time is first filled with zeros"
  abbrev pub fills_block : Bool → Bool
  fills_block fills = fills && needs_block

-- the block that the record goes to
unfoldable pub write_block : Geometry → List ℕ → List ℕ → ℕ → List ℕ → ℕ → ℕ
write_block g held v u name n =
    cond (needs_block g v u name n) (alloc g held (base_entry g v u name n) (place_of g n))
    (record_block g (base_entry g v u name n) n)

-- the entry that the write leaves in its slot
abbrev pub entry_after : Geometry → List ℕ → List ℕ → ℕ → List ℕ → ℕ → Entry
entry_after g held v u name n = written_entry g (base_entry g v u name n) n (write_block g held v u name n)

-- 3, 38, 41, 5, 2
unfoldable pub write_tests : Geometry → List ℕ → List ℕ → ℕ → List ℕ → ℕ → List Test
write_tests g held v u name n =
    test NoFile (leb (slots g) (find_slot g v u name File))
    ∷ test ReadOnly (ltb (find_slot g v u name ReadOnlyFile) (slots g))
    ∷ test Outside (not (needs_block g v u name n) && not (inside g (record_block g (base_entry g v u name n) n)))
    ∷ test NoSlot (not (has_group g v u name n) && leb (slots g) (find_slot g v u name Empty))
    ∷ test NoBlock (needs_block g v u name n && leb (blocks g) (alloc g held (base_entry g v u name n) (place_of g n)))
    ∷ []
