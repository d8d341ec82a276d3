-- The reads: the tests that look at the directory, in the paper's order, and what a read leaves.
use Rattle.std.specs.Prelude.{not, List, [], ◌∷◌, ℕ, leb}
use Rattle.disk_geometry.specs.declared.Geometry.{Geometry}
use Rattle.disk_volume.specs.declared.Wanted.TheVariants.{File}
use Rattle.disk_geometry.specs.Geometry.{slots, inside}
use Rattle.disk_volume.specs.Name.{name_of}
use Rattle.disk_volume.specs.Directory.{slot_at, find_slot}
use Rattle.disk_volume.specs.Record.{record_slot, record_block, record_at, present}
use Rattle.call_fcb.specs.Fcb.{set_to}
use Rattle.call_answers.specs.declared.Refusal.{Refusal}
use Rattle.call_answers.specs.declared.Refusal.TheVariants.{NoFile, Absent, Outside}
use Rattle.call_answers.specs.Refusal.{Test, test}

-- the block of record n of the file, by the lowest entry of its group
unfoldable pub read_block : Geometry → List ℕ → ℕ → List ℕ → ℕ → ℕ
read_block g v u name n = record_block g (slot_at g v (record_slot g v u name n)) n

-- 3, then `missing` for a group without an entry (random: 4, sequential: 1), 1, 41
unfoldable pub read_tests : Geometry → List ℕ → ℕ → List ℕ → ℕ → Refusal → List Test
read_tests g v u name n missing =
    test NoFile (leb (slots g) (find_slot g v u name File))
    ∷ test missing (leb (slots g) (record_slot g v u name n))
    ∷ test Absent (not (present g v u name n))
    ∷ test Outside (not (inside g (read_block g v u name n)))
    ∷ []

-- the control block, "set to n", with this cr
abbrev pub read_fcb : Geometry → List ℕ → ℕ → List ℕ → ℕ → ℕ → List ℕ
read_fcb g v u fcb n cr = set_to fcb (slot_at g v (record_slot g v u (name_of fcb) n)) n cr

-- the record's bytes
unfoldable pub read_bytes : Geometry → List ℕ → ℕ → List ℕ → ℕ → List ℕ
read_bytes g v u name n = record_at g v (read_block g v u name n) n
