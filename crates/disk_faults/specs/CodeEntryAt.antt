-- What code asks of an entry that it is lent beside its volume; not for the reader of the paper.
use Rattle.std.specs.Prelude.{◌≡◌, List, ℕ, ◌<◌}
use Rattle.disk_geometry.specs.declared.Geometry.{Geometry}
use Rattle.disk_geometry.specs.Geometry.{slots}
use Rattle.disk_volume.specs.Directory.{slot_at}
use Rattle.disk_volume.specs.CodeLent.{IsVolume, IsEntry}

-- e is the entry in slot i of the volume
abbrev pub EntryAt : Geometry → List ℕ → ℕ → List ℕ → Type 0
EntryAt g v i e = IsVolume g v × ((i < slots g) × (IsEntry e × (e ≡ slot_at g v i)))
