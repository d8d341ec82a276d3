-- Records: "Record n lies in extent n div 128, that extent's group, and map place (n mod 128X) div R." .. "Record n is
-- present if its group has an entry, n mod 128 is below the count, and the map place is not 0."
use Rattle.std.specs.Prelude.{Bool, not, cond, ◌&&◌, ◌⊎◌, List, ℕ, ◌+◌, ◌/◌, ◌%◌, ◌≤◌, ltb, eqb, replicate}
use Rattle.lists.specs.Bytes.{part, put}
use Rattle.lists.specs.Bounded.{fold}
use Rattle.disk_geometry.specs.declared.Geometry.{Geometry}
use Rattle.disk_volume.specs.declared.Wanted.TheVariants.{Group}
use Rattle.disk_geometry.specs.Geometry.{record_bytes, extent_records, record_slots, records, slots, start, record_start, group_of, place_of}
use Rattle.disk_volume.specs.Entry.{Entry, block_in, count_of}
use Rattle.disk_volume.specs.Directory.{slot_at, find_slot}

-- the slot of the entry that record n of a file lies in, the number of slots where there is none
unfoldable pub record_slot : Geometry → List ℕ → ℕ → List ℕ → ℕ → ℕ
record_slot g v u name n = find_slot g v u name (Group (group_of g (n / extent_records)))

-- the block number of record n in its entry
abbrev pub record_block : Geometry → Entry → ℕ → ℕ
record_block g e n = block_in g e (place_of g n)

-- record n counts, and its place is used
unfoldable pub counted : Geometry → Entry → ℕ → Bool
counted g e n = ltb (n % extent_records) (count_of e (n / extent_records)) && not (eqb (record_block g e n) 0)

unfoldable pub present : Geometry → List ℕ → ℕ → List ℕ → ℕ → Bool
present g v u name n = ltb (record_slot g v u name n) (slots g) && counted g (slot_at g v (record_slot g v u name n)) n

-- the bytes of record n in block b, and others laid there
unfoldable pub record_at : Geometry → List ℕ → ℕ → ℕ → List ℕ
record_at g v b n = part v (record_start g b n) record_bytes

unfoldable pub put_record : Geometry → List ℕ → ℕ → ℕ → List ℕ → List ℕ
put_record g v b n r = put v (record_start g b n) record_bytes r

-- record k of block b, where record n is written with r and all others of the block with zeros
unfoldable pub fill_record : Geometry → ℕ → ℕ → List ℕ → List ℕ → ℕ → List ℕ
fill_record g b n r v k = put_record g v b k (cond (eqb k (n % records g)) r (replicate record_bytes 0))

-- record n written with r in block b; if `fills`, the block is whole afterwards: each of its records is laid once
unfoldable pub put_filled : Geometry → Bool → List ℕ → ℕ → ℕ → List ℕ → List ℕ
put_filled g fills v b n r = let whole = fold (fill_record g b n r) v 0 (records g) in cond fills whole (put_record g v b n r)

-- byte x of the volume lies in no record of block b
abbrev pub OffBlock : Geometry → ℕ → ℕ → Type 0
OffBlock g b x = (m : ℕ) → (x + 1 ≤ record_start g b m) ⊎ (record_start g b m + record_bytes ≤ x)

-- the directory record that holds slot i, as a search shows it
unfoldable pub slot_record : Geometry → List ℕ → ℕ → List ℕ
slot_record g v i = part v (start g (i / record_slots)) record_bytes
