-- What request (xiv) says of the copy: "Each file has the same records present with the same bytes, the copy passes inspection, has as
-- many free blocks, and copying the copy gives the same bytes." What is said of the copy's bytes is said of the volume, which is its
-- logical records: on an eight-inch image the second's reserved tracks and last six records keep their bytes, as in request (i). Proved in
-- `proofs/HoldsLaws`.
use Rattle.std.specs.Prelude.{◌≡◌, true, List, ℕ, ◌*◌, ◌≤◌, ◌<◌, length, take, replicate}
use Rattle.lists.specs.Bytes.{part}
use Rattle.disk_geometry.specs.declared.Geometry.{Geometry}
use Rattle.disk_geometry.specs.EightInch.{track_records, reserved_bytes}
use Rattle.disk_geometry.specs.Geometry.{record_bytes, entry_bytes, straight, blocks, placing, floppy, lawful, bytes, records, start, slots, places}
use Rattle.disk_volume.specs.Fields.{MAP, EMPTY}
use Rattle.disk_volume.specs.Entry.{block_in}
use Rattle.disk_volume.specs.Directory.{slot_at}
use Rattle.disk_volume.specs.Record.{record_slot, record_block, present, record_at}
use Rattle.disk_rules.specs.GoodSlot.{lowest_bad}
use Rattle.disk_rules.specs.Named.{free_of}
use Rattle.files.specs.Files.{is_used}
use Rattle.fresh_order.specs.Order.{order}
use Rattle.fresh_volume.specs.Copy.{entry_at, fresh}

-- the bytes of record n of a file, where it is present
abbrev pub file_record : Geometry → List ℕ → ℕ → List ℕ → ℕ → List ℕ
file_record g v u name n = record_at g v (record_block g (slot_at g v (record_slot g v u name n)) n) n

-- a worn disk that log-in accepts, and a second disk of its length
pub record Worn (g : Geometry) (v w : List ℕ) : Type 0 where
  pub law : lawful g ≡ true
  pub size : length v ≡ bytes g
  pub ok : lowest_bad g v ≡ slots g
  pub second : length w ≡ bytes g

-- of any way to copy
pub record HoldsOf (copy : Geometry → List ℕ → List ℕ → List ℕ) (g : Geometry) (v w : List ℕ) : Type 0 where
  -- "Each file has the same records present with the same bytes": each user 0..15 and each name
  pub same_present : (u : ℕ) (name : List ℕ) (n : ℕ) → u ≤ 15 → present g (copy g v w) u name n ≡ present g v u name n
  pub same_bytes : (u : ℕ) (name : List ℕ) (n : ℕ) → u ≤ 15 → present g v u name n ≡ true → file_record g (copy g v w) u name n ≡ file_record g v u name n
  -- "entries keep all but their map": slot k has the bytes before the map of entry k in order, so no file is left out, whether it has
  -- records or none, and none loses a mark
  pub same_heads : (k : ℕ) → k < length (order g v) → take MAP (slot_at g (copy g v w) k) ≡ take MAP (entry_at g v (order g v) k)
  -- "Held blocks are copied whole": the block in each used place of entry k has all its records, counted or not
  pub same_blocks : (k p n : ℕ) → k < length (order g v) → p < places g → is_used g (entry_at g v (order g v) k) p ≡ true
      → record_at g (copy g v w) (block_in g (slot_at g (copy g v w) k) p) n ≡ record_at g v (block_in g (entry_at g v (order g v) k) p) n
  -- "empty slots .. are all E5H": behind the entries nothing stands, no file without records either
  pub no_more : (k : ℕ) → length (order g v) ≤ k → k < slots g → slot_at g (copy g v w) k ≡ replicate entry_bytes EMPTY
  -- "the copy passes inspection, has as many free blocks"
  pub passes : lowest_bad g (copy g v w) ≡ slots g
  pub as_many_free : free_of g (copy g v w) ≡ free_of g v
  -- "copying the copy gives the same bytes": a fresh disk from it is the copy itself; on any other second disk it is what the worn one
  -- would give there, with the logical records of the copy, and with all its bytes where records lie one behind the other
  pub again : fresh g (copy g v w) w ≡ copy g v w
  pub again_elsewhere : (x : List ℕ) → length x ≡ bytes g → fresh g (copy g v w) x ≡ copy g v x
  pub again_records : (x : List ℕ) → length x ≡ bytes g → (q : ℕ) → q < blocks g * records g
      → part (fresh g (copy g v w) x) (start g q) record_bytes ≡ part (copy g v w) (start g q) record_bytes
  pub again_straight : placing g ≡ straight → (x : List ℕ) → length x ≡ bytes g → fresh g (copy g v w) x ≡ copy g v w

abbrev pub FreshHolds : Type 0
FreshHolds = (g : Geometry) (v w : List ℕ) → Worn g v w → HoldsOf fresh g v w

-- on an eight-inch image the second's reserved tracks and last six logical records keep their bytes
pub record SpareOf (copy : Geometry → List ℕ → List ℕ → List ℕ) (v w : List ℕ) : Type 0 where
  pub reserved : part (copy floppy v w) 0 reserved_bytes ≡ part w 0 reserved_bytes
  pub last_six : (q : ℕ) → blocks floppy * records floppy ≤ q → q < track_records
      → part (copy floppy v w) (start floppy q) record_bytes ≡ part w (start floppy q) record_bytes

abbrev pub SpareKept : Type 0
SpareKept = (v w : List ℕ) → Worn floppy v w → SpareOf fresh v w
