-- A directory record: four pieces of 32 bytes, each an entry. Entries are changed in a copy of their record, which is then
-- stored whole.
use Rattle.std.specs.Prelude.{Bool, cond, List, ℕ, ◌*◌}
use Rattle.lists.specs.Bounded.{fold, any}
use Rattle.lists.specs.Bytes.{part, put}
use Rattle.disk_geometry.specs.declared.Geometry.{Geometry}
use Rattle.disk_geometry.specs.Geometry.{start, record_bytes, entry_bytes, record_slots}
use Rattle.disk_volume.specs.Entry.{Entry}

-- piece k of a directory record
abbrev pub piece_of : List ℕ → ℕ → Entry
piece_of l k = part l (k * entry_bytes) entry_bytes

-- piece k changed by f, and each of the four
unfoldable pub map_piece : (Entry → Entry) → List ℕ → ℕ → List ℕ
map_piece f l k = put l (k * entry_bytes) entry_bytes (f (piece_of l k))

abbrev pub map_pieces : (Entry → Entry) → List ℕ → List ℕ
map_pieces f l = fold (map_piece f) l 0 record_slots

-- the change of the entries that are meant, and of no other
abbrev pub meant_only : (Entry → Bool) → (Entry → Entry) → Entry → Entry
meant_only meant f e = cond (meant e) (f e) e

-- the record holds an entry that is meant
abbrev pub holds_meant : (Entry → Bool) → List ℕ → Bool
holds_meant meant l = any record_slots (λ k. meant (piece_of l k))

-- record r of the directory with each piece changed by f: for proofs, since code stores only records that hold what is meant
unfoldable pub map_record : Geometry → (Entry → Entry) → List ℕ → ℕ → List ℕ
map_record g f v r = put v (start g r) record_bytes (map_pieces f (part v (start g r) record_bytes))
