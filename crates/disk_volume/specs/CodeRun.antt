-- A run of entries, one behind the other, as code looks through it: the whole directory of a straight volume, a directory record
-- of any; not for the reader of the paper.
use Rattle.std.specs.Prelude.{◌≡◌, Bool, List, ℕ, ◌-◌, ◌*◌, ◌/◌, ◌%◌, length}
use Rattle.lists.specs.Bounded.{low_from}
use Rattle.lists.specs.Bytes.{part}
use Rattle.disk_geometry.specs.declared.Geometry.{Geometry}
use Rattle.disk_geometry.specs.Geometry.{entry_bytes}
use Rattle.disk_volume.specs.declared.Wanted.{Wanted}
use Rattle.disk_volume.specs.Directory.{fits}

-- whole entries
abbrev pub IsRun : List ℕ → Type 0
IsRun l = length l % entry_bytes ≡ 0

-- how many entries a run has, and does entry k of it have what is wanted?
abbrev pub run_entries : List ℕ → ℕ
run_entries l = length l / entry_bytes

abbrev pub run_fits : Geometry → List ℕ → ℕ → List ℕ → Wanted → ℕ → Bool
run_fits g l u name w k = fits g u name w (part l (k * entry_bytes) entry_bytes)

-- the lowest from entry k on that has it, the number of entries where none has
abbrev pub find_in : Geometry → List ℕ → ℕ → List ℕ → Wanted → ℕ → ℕ
find_in g l u name w k = low_from (run_fits g l u name w) k (run_entries l - k)
