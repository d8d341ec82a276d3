-- What code asks of the slices that it is lent: a lawful geometry, and lengths that are right; not for the reader of the paper.
use Rattle.std.specs.Prelude.{◌≡◌, true, List, ℕ, length}
use Rattle.disk_geometry.specs.declared.Geometry.{Geometry}
use Rattle.disk_geometry.specs.Geometry.{lawful, bytes, record_bytes, entry_bytes}
use Rattle.disk_volume.specs.Fields.{name_bytes}

abbrev pub IsVolume : Geometry → List ℕ → Type 0
IsVolume g v = (lawful g ≡ true) × (length v ≡ bytes g)

-- the same, and what is asked beside it
abbrev pub VolumeAnd : Geometry → List ℕ → Type 0 → Type 0
VolumeAnd g v rest = (lawful g ≡ true) × ((length v ≡ bytes g) × rest)

abbrev pub IsName : List ℕ → Type 0
IsName name = length name ≡ name_bytes

abbrev pub IsEntry : List ℕ → Type 0
IsEntry e = length e ≡ entry_bytes

abbrev pub IsFcb : List ℕ → Type 0
IsFcb fcb = length fcb ≡ 36

abbrev pub IsRecord : List ℕ → Type 0
IsRecord r = length r ≡ record_bytes
