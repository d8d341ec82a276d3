-- What is true of the figures of every volume that passes inspection: the waste is never below 0, every block from D to T-1 is
-- held or free, no figure is above
-- 65,536, and no record from 65,536 on is present, so that those below are all. Proved in `proofs/WasteLaws`.
use Rattle.std.specs.Prelude.{◌≡◌, true, false, List, ℕ, ◌+◌, ◌-◌, ◌*◌, ◌≤◌}
use Rattle.disk_geometry.specs.declared.Geometry.{Geometry}
use Rattle.disk_geometry.specs.Geometry.{lawful, blocks, directory_blocks_of, records, slots}
use Rattle.disk_volume.specs.Record.{present}
use Rattle.disk_rules.specs.GoodSlot.{lowest_bad}
use Rattle.shelf_holdings.specs.Holdings.{files, entries, most_records, records_present, blocks_held, blocks_free, waste}

-- a file has at most so many records, and no volume has more
abbrev pub most_of_volume : ℕ
most_of_volume = 65536

pub record Sums (g : Geometry) (v : List ℕ) : Type 0 where
  pub never_below : records_present g v ≤ blocks_held g v * records g
  pub waste_and_records : waste g v + records_present g v ≡ blocks_held g v * records g
  pub held_and_free : blocks_held g v + blocks_free g v ≡ blocks g - directory_blocks_of g
  pub files_most : files g v ≤ most_of_volume
  pub entries_most : entries g v ≤ most_of_volume
  pub records_most : records_present g v ≤ most_of_volume
  pub held_most : blocks_held g v ≤ most_of_volume
  pub free_most : blocks_free g v ≤ most_of_volume
  pub waste_most : waste g v ≤ most_of_volume
  pub none_beyond : (u : ℕ) (name : List ℕ) (n : ℕ) → u ≤ 15 → most_records ≤ n → present g v u name n ≡ false

abbrev pub SumsHold : Type 0
SumsHold = (g : Geometry) (v : List ℕ) → lawful g ≡ true → lowest_bad g v ≡ slots g → Sums g v
