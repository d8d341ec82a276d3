-- The files of a volume, each by its lowest slot: what stands there for the file, its blocks, its marks, and the next file.
use Rattle.std.specs.Prelude.{Bool, not, cond, ◌&&◌, List, ℕ, ◌+◌, ◌-◌, leb, eqb}
use Rattle.lists.specs.Bounded.{low_from, any, count_from, fold}
use Rattle.lists.specs.Bytes.{byte}
use Rattle.disk_geometry.specs.declared.Geometry.{Geometry}
use Rattle.disk_volume.specs.declared.Wanted.TheVariants.{File}
use Rattle.disk_geometry.specs.Geometry.{slots, places}
use Rattle.disk_volume.specs.Fields.{USER}
use Rattle.disk_volume.specs.Name.{TOPBIT, name_of}
use Rattle.disk_volume.specs.Entry.{Entry, is_empty, block_in, of_file}
use Rattle.disk_volume.specs.Directory.{slot_at, find_slot}

-- "sixteen block numbers, 0 for none", or (xi) "eight to an entry": place p of an entry's map names a block; how many places do
abbrev pub is_used : Geometry → Entry → ℕ → Bool
is_used g e p = not (eqb (block_in g e p) 0)

unfoldable pub used_places : Geometry → Entry → ℕ
used_places g e = count_from (is_used g e) 0 (places g)

-- m and the blocks that slot i holds for the file; the blocks held by all entries of the file
unfoldable pub more_blocks : Geometry → List ℕ → ℕ → List ℕ → ℕ → ℕ → ℕ
more_blocks g v u name m i = cond (of_file u name (slot_at g v i)) (m + used_places g (slot_at g v i)) m

unfoldable pub blocks_of : Geometry → List ℕ → ℕ → List ℕ → ℕ
blocks_of g v u name = fold (more_blocks g v u name) 0 0 (slots g)

-- the entry in slot i stands for its file: no lower slot has an entry of the file
unfoldable pub is_listed : Geometry → List ℕ → Entry → ℕ → Bool
is_listed g v e i = not (is_empty e) && eqb (find_slot g v (byte e USER) (name_of e) File) i

-- the lowest slot from slot i on that stands for its file; where none does, the larger of i and the number of slots
unfoldable pub next_file : Geometry → List ℕ → ℕ → ℕ
next_file g v i = low_from (λ j. is_listed g v (slot_at g v j) j) i (slots g - i)

-- the entry in slot i is one of the file and has a top bit on byte k; one of the file's entries has. "Top bit of byte 9:
-- read-only. Top bit of byte 10: system file."
abbrev pub marked_at : Geometry → List ℕ → ℕ → List ℕ → ℕ → ℕ → Bool
marked_at g v u name k i = of_file u name (slot_at g v i) && leb TOPBIT (byte (slot_at g v i) k)

unfoldable pub is_marked : Geometry → List ℕ → ℕ → List ℕ → ℕ → Bool
is_marked g v u name k = any (slots g) (marked_at g v u name k)
