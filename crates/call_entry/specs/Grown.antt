-- The entry that a write leaves: "a missing group gets the lowest empty slot, with bytes 0 to 11 of the file's lowest entry,
-- s1 0 and a map of zeros"; how it counts a further record, and the block of its place.
use Rattle.std.specs.Prelude.{cond, List, ◌++◌, ℕ, ◌+◌, ◌-◌, ◌/◌, ◌%◌, max, ltb, set, replicate}
use Rattle.lists.specs.Bytes.{byte, part}
use Rattle.disk_geometry.specs.declared.Geometry.{Geometry}
use Rattle.disk_geometry.specs.Geometry.{entry_bytes, extent_records, slots, place_of}
use Rattle.disk_volume.specs.Fields.{USER, EX, S2, RC}
use Rattle.disk_volume.specs.Entry.{Entry, extent, with_block}
use Rattle.disk_volume.specs.Directory.{slot_at}

-- a new entry with bytes 0 to 11 of another, all that stands before ex
unfoldable pub like_entry : Entry → Entry
like_entry e = part e USER EX ++ replicate (entry_bytes - EX) 0

-- the group's own entry in slot `from`, or else a new one like the entry there
unfoldable pub base_of : Geometry → List ℕ → ℕ → ℕ → Entry
base_of g v own from = cond (ltb own (slots g)) (slot_at g v from) (like_entry (slot_at g v from))

-- "If the extent of n is above the entry's, or the entry is new, ex and s2 take that extent and rc is n mod 128 + 1; if
-- equal, rc is the larger of both; if below, it stays." A new entry has extent 0 and rc 0, which needs no case of its own.
unfoldable pub grown : Entry → ℕ → Entry
grown e n =
    let x = n / extent_records in
    let count = n % extent_records + 1 in
    cond (ltb (extent e) x) (set (set (set e EX (x % 32)) S2 (x / 32)) RC count)
    (cond (ltb x (extent e)) e (set e RC (max (byte e RC) count)))

-- the entry after record n went to block b
unfoldable pub written_entry : Geometry → Entry → ℕ → ℕ → Entry
written_entry g e n b = with_block g (grown e n) (place_of g n) b
