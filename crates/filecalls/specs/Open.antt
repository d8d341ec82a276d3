-- Open (15), close (16) and size (35).
use Rattle.std.specs.Prelude.{true, false, List, [], ◌∷◌, ℕ, ◌%◌, leb}
use Rattle.disk_volume.specs.declared.Wanted.TheVariants.{File}
use Rattle.disk_geometry.specs.Geometry.{slots, record_slots}
use Rattle.disk_volume.specs.Fields.{NAME}
use Rattle.disk_volume.specs.Name.{name_of}
use Rattle.disk_volume.specs.Directory.{slot_at, find_slot}
use Rattle.call_fcb.specs.Fcb.{ex_fits, extent_fits, opened, with_random}
use Rattle.call_answers.specs.declared.Refusal.TheVariants.{NoMatch}
use Rattle.call_answers.specs.Refusal.{Test, test}
use Rattle.call_open.specs.Open.{open_slot, close_slot}
use Rattle.call_size.specs.Size.{size_of}
use Rattle.filecalls.specs.declared.Drive.{Drive}
use Rattle.filecalls.specs.Tests.{closed_state, volume_length, fcb_length, drive_code, bad_name, too_large}
use Rattle.filecalls.specs.Outcome.{keeps, Act, done, unless}

unfoldable pub open_tests : Drive → List ℕ → List ℕ → List Test
open_tests d v fcb =
    closed_state d ∷ volume_length d v ∷ fcb_length fcb ∷ drive_code fcb ∷ bad_name true fcb NAME ∷ too_large (ex_fits fcb)
    ∷ test NoMatch (leb (slots d.geometry) (open_slot d.geometry v d.user fcb))
    ∷ []

unfoldable pub open_act : Drive → List ℕ → List ℕ → Act
open_act d v fcb =
    unless (open_tests d v fcb)
    (done (open_slot d.geometry v d.user fcb % record_slots) keeps []
    (opened fcb (slot_at d.geometry v (open_slot d.geometry v d.user fcb))) [])

unfoldable pub close_tests : Drive → List ℕ → List ℕ → List Test
close_tests d v fcb =
    closed_state d ∷ volume_length d v ∷ fcb_length fcb ∷ drive_code fcb ∷ bad_name false fcb NAME ∷ too_large (extent_fits fcb)
    ∷ test NoMatch (leb (slots d.geometry) (close_slot d.geometry v d.user fcb))
    ∷ []

-- "Changes nothing."
unfoldable pub close_act : Drive → List ℕ → List ℕ → Act
close_act d v fcb =
    unless (close_tests d v fcb) (done (close_slot d.geometry v d.user fcb % record_slots) keeps [] fcb [])

unfoldable pub size_tests : Drive → List ℕ → List ℕ → List Test
size_tests d v fcb =
    closed_state d ∷ volume_length d v ∷ fcb_length fcb ∷ drive_code fcb ∷ bad_name false fcb NAME
    ∷ test NoMatch (leb (slots d.geometry) (find_slot d.geometry v d.user (name_of fcb) File))
    ∷ []

unfoldable pub size_act : Drive → List ℕ → List ℕ → Act
size_act d v fcb =
    unless (size_tests d v fcb) (done 0 keeps [] (with_random fcb (size_of d.geometry v d.user (name_of fcb))) [])
