-- The same records entry by entry, as code counts them: theorem `by_entries`. And the held blocks place by place.
use Rattle.std.specs.Prelude.{cond, List, ℕ, ◌+◌, ◌-◌, ◌*◌, ◌%◌, min}
use Rattle.lists.specs.Bytes.{byte}
use Rattle.sums.specs.Sum.{sum}
use Rattle.disk_geometry.specs.declared.Geometry.{Geometry}
use Rattle.disk_geometry.specs.Geometry.{extent_records, slots, records, extents, places}
use Rattle.disk_volume.specs.Fields.{RC}
use Rattle.disk_volume.specs.Entry.{Entry, extent}
use Rattle.disk_volume.specs.Directory.{slot_at}
use Rattle.files.specs.Files.{is_used, used_places}
use Rattle.shelf_holdings.specs.Holdings.{is_entry}

-- how many records of its group the entry counts, from the group's first on
abbrev pub run : Geometry → Entry → ℕ
run g e = extent_records * (extent e % extents g) + min (byte e RC) extent_records

-- how many of them stand in place p, if that names a block; in all places
unfoldable pub place_records : Geometry → Entry → ℕ → ℕ
place_records g e p = cond (is_used g e p) (min (run g e - p * records g) (records g)) 0

unfoldable pub entry_records : Geometry → Entry → ℕ
entry_records g e = sum (places g) (place_records g e)

unfoldable pub slot_records : Geometry → List ℕ → ℕ → ℕ
slot_records g v i = cond (is_entry g v i) (entry_records g (slot_at g v i)) 0

unfoldable pub records_by_entries : Geometry → List ℕ → ℕ
records_by_entries g v = sum (slots g) (slot_records g v)

-- the blocks that slot i names
unfoldable pub slot_places : Geometry → List ℕ → ℕ → ℕ
slot_places g v i = cond (is_entry g v i) (used_places g (slot_at g v i)) 0
