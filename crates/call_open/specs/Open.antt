-- Open and close: the slot that each means, the number of slots where there is none.
use Rattle.std.specs.Prelude.{List, ℕ}
use Rattle.lists.specs.Bytes.{byte}
use Rattle.disk_geometry.specs.declared.Geometry.{Geometry}
use Rattle.disk_volume.specs.declared.Wanted.TheVariants.{Group, MatchGroup}
use Rattle.disk_geometry.specs.Geometry.{group_of}
use Rattle.disk_volume.specs.Fields.{EX}
use Rattle.disk_volume.specs.Name.{name_of}
use Rattle.disk_volume.specs.Entry.{extent}
use Rattle.disk_volume.specs.Directory.{find_slot}

-- "lowest slot of the current user whose name matches (3FH matches any byte) in the group of ex, with s2 taken as 0"
unfoldable pub open_slot : Geometry → List ℕ → ℕ → List ℕ → ℕ
open_slot g v u fcb = find_slot g v u (name_of fcb) (MatchGroup (group_of g (byte fcb EX)))

-- "the group of (s2, ex) has an entry"
unfoldable pub close_slot : Geometry → List ℕ → ℕ → List ℕ → ℕ
close_slot g v u fcb = find_slot g v u (name_of fcb) (Group (group_of g (extent fcb)))
