-- Size: "the largest 128E + min(rc, 128) over the file's entries".
use Rattle.std.specs.Prelude.{cond, List, ℕ, ◌+◌, ◌*◌, min, max}
use Rattle.lists.specs.Bounded.{fold}
use Rattle.lists.specs.Bytes.{byte}
use Rattle.disk_geometry.specs.declared.Geometry.{Geometry}
use Rattle.disk_geometry.specs.Geometry.{extent_records, slots}
use Rattle.disk_volume.specs.Fields.{RC}
use Rattle.disk_volume.specs.Entry.{Entry, extent, of_file}
use Rattle.disk_volume.specs.Directory.{slot_at}

-- where the file ends by an entry
unfoldable pub entry_end : Entry → ℕ
entry_end e = extent_records * extent e + min (byte e RC) extent_records

-- the larger of m and what slot i says of the file
unfoldable pub larger : Geometry → List ℕ → ℕ → List ℕ → ℕ → ℕ → ℕ
larger g v u name m i = cond (of_file u name (slot_at g v i)) (max m (entry_end (slot_at g v i))) m

-- the file's size in records
unfoldable pub size_of : Geometry → List ℕ → ℕ → List ℕ → ℕ
size_of g v u name = fold (larger g v u name) 0 0 (slots g)
