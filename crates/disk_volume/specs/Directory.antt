-- The directory: the entry in a slot, and "the lowest slot" that has what is wanted.
use Rattle.std.specs.Prelude.{Bool, true, ◌&&◌, List, ℕ, ◌-◌, eqb}
use Rattle.lists.specs.Bounded.{low_from, lowest, fold}
use Rattle.lists.specs.Bytes.{part, put}
use Rattle.disk_geometry.specs.declared.Geometry.{Geometry}
use Rattle.disk_volume.specs.declared.Wanted.{Wanted}
use Rattle.disk_volume.specs.declared.Wanted.TheVariants.{Any, Empty, File, ReadOnlyFile, Group, Match, ReadOnlyMatch, MatchGroup}
use Rattle.disk_geometry.specs.Geometry.{entry_bytes, slots, slot_start, group_of}
use Rattle.disk_volume.specs.Entry.{Entry, is_empty, read_only, extent, of_file, of_group, matches}

-- the entry in slot i, and another laid there
unfoldable pub slot_at : Geometry → List ℕ → ℕ → Entry
slot_at g v i = part v (slot_start g i) entry_bytes

unfoldable pub put_slot : Geometry → List ℕ → ℕ → Entry → List ℕ
put_slot g v i e = put v (slot_start g i) entry_bytes e

-- does the entry have what is wanted, for this user and this name (or pattern)?
abbrev pub fits : Geometry → ℕ → List ℕ → Wanted → Entry → Bool
fits g u name Any e = true
fits g u name Empty e = is_empty e
fits g u name File e = of_file u name e
fits g u name ReadOnlyFile e = of_file u name e && read_only e
fits g u name (Group k) e = of_group g u name k e
fits g u name Match e = matches u name e
fits g u name ReadOnlyMatch e = matches u name e && read_only e
fits g u name (MatchGroup k) e = matches u name e && eqb (group_of g (extent e)) k

abbrev pub slot_fits : Geometry → List ℕ → ℕ → List ℕ → Wanted → ℕ → Bool
slot_fits g v u name w i = fits g u name w (slot_at g v i)

-- the lowest slot that has it, the number of slots where none has: of those from slot i on, and of all
abbrev pub find_from : Geometry → List ℕ → ℕ → List ℕ → Wanted → ℕ → ℕ
find_from g v u name w i = low_from (slot_fits g v u name w) i (slots g - i)

unfoldable pub find_slot : Geometry → List ℕ → ℕ → List ℕ → Wanted → ℕ
find_slot g v u name w = lowest (slots g) (slot_fits g v u name w)

-- slot i changed by f, and every slot
unfoldable pub map_slot : Geometry → (Entry → Entry) → List ℕ → ℕ → List ℕ
map_slot g f v i = put_slot g v i (f (slot_at g v i))

abbrev pub map_slots : Geometry → (Entry → Entry) → List ℕ → List ℕ
map_slots g f v = fold (map_slot g f) v 0 (slots g)
