-- What code keeps while it puts the entries of an accepted volume in order; not for the reader of the paper.
use Rattle.std.specs.Prelude.{◌≡◌, true, List, map, ℕ, ◌+◌, ◌*◌, length, take}
use Rattle.lists.specs.Bytes.{byte}
use Rattle.disk_geometry.specs.declared.Geometry.{Geometry}
use Rattle.disk_volume.specs.declared.Wanted.TheVariants.{File}
use Rattle.disk_geometry.specs.Geometry.{lawful, bytes, slots}
use Rattle.disk_rules.specs.GoodSlot.{lowest_bad}
use Rattle.disk_volume.specs.Fields.{USER}
use Rattle.disk_volume.specs.Name.{name_of}
use Rattle.disk_volume.specs.Entry.{Entry, extent}
use Rattle.disk_volume.specs.Directory.{find_slot}
use Rattle.fresh_order.specs.CodeKeys.{file_extents, most_slots, key_of, ordered_to}

-- the number of an entry as it is lent
unfoldable pub key_in : Geometry → List ℕ → Entry → ℕ → ℕ
key_in g v e i = (find_slot g v (byte e USER) (name_of e) File * file_extents + extent e) * most_slots + i

-- of the slots below n: their numbers in order, in the m lowest places
pub record InOrder (g : Geometry) (v : List ℕ) (n : ℕ) (kept : List ℕ) (m : ℕ) : Type 0 where
  pub room : length kept ≡ most_slots
  pub many : m ≡ length (ordered_to g v n)
  pub numbers : take m kept ≡ map (key_of g v) (ordered_to g v n)

-- a volume that log-in accepts
abbrev pub IsAccepted : Geometry → List ℕ → Type 0
IsAccepted g v = (lawful g ≡ true) × ((length v ≡ bytes g) × (lowest_bad g v ≡ slots g))
