-- May a file be changed? A question of the file calls that changes nothing itself: the refusals that a write of the file has
-- before any record of it is looked at. The desk asks it (request (x)): "Refusals, after the file's own at record 0 (37 and 38
-- too)".
use Rattle.std.specs.Prelude.{false, List, [], ◌∷◌, ℕ, leb, ltb}
use Rattle.disk_geometry.specs.Geometry.{slots}
use Rattle.disk_volume.specs.declared.Wanted.TheVariants.{File, ReadOnlyFile}
use Rattle.disk_volume.specs.Fields.{NAME}
use Rattle.disk_volume.specs.Name.{name_of}
use Rattle.disk_volume.specs.Directory.{find_slot}
use Rattle.call_answers.specs.declared.Refusal.TheVariants.{NoFile, ReadOnly}
use Rattle.call_answers.specs.Refusal.{Test, test}
use Rattle.filecalls.specs.declared.Drive.{Drive}
use Rattle.filecalls.specs.Tests.{closed_state, volume_length, fcb_length, drive_code, bad_name, protected_drive}

-- 32, 33, 34, 42, 39; 37, 3, 38
unfoldable pub change_tests : Drive → List ℕ → List ℕ → List Test
change_tests d v fcb =
    closed_state d ∷ volume_length d v ∷ fcb_length fcb ∷ drive_code fcb ∷ bad_name false fcb NAME
    ∷ protected_drive d
    ∷ test NoFile (leb (slots d.geometry) (find_slot d.geometry v d.user (name_of fcb) File))
    ∷ test ReadOnly (ltb (find_slot d.geometry v d.user (name_of fcb) ReadOnlyFile) (slots d.geometry))
    ∷ []
