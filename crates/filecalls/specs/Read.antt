-- The reads: sequential (20) and random (33).
use Rattle.std.specs.Prelude.{false, not, List, [], ◌∷◌, ◌++◌, ℕ, ◌+◌, ◌%◌, eqb}
use Rattle.lists.specs.Bytes.{byte}
use Rattle.disk_geometry.specs.Geometry.{extent_records}
use Rattle.disk_volume.specs.Fields.{NAME}
use Rattle.disk_volume.specs.Name.{name_of}
use Rattle.disk_volume.specs.Directory.{slot_at}
use Rattle.disk_volume.specs.Record.{record_slot}
use Rattle.call_fcb.specs.Fcb.{R2, file_records, position, random, position_fits, set_to}
use Rattle.call_answers.specs.declared.Refusal.TheVariants.{NoGroup, Absent}
use Rattle.call_answers.specs.Refusal.{Test}
use Rattle.call_read.specs.Read.{read_tests, read_bytes}
use Rattle.filecalls.specs.declared.Drive.{Drive}
use Rattle.filecalls.specs.Tests.{closed_state, volume_length, fcb_length, buffer_length, drive_code, bad_name, too_large, beyond}
use Rattle.filecalls.specs.Outcome.{keeps, Act, done, unless}

-- the tests of what is lent, of a sequential call and of a random one
unfoldable pub sequential_tests : Drive → List ℕ → List ℕ → List ℕ → List Test
sequential_tests d v fcb b =
    closed_state d ∷ volume_length d v ∷ fcb_length fcb ∷ buffer_length b ∷ drive_code fcb ∷ bad_name false fcb NAME
    ∷ too_large (position_fits fcb) ∷ beyond (eqb (position fcb) file_records) ∷ []

unfoldable pub random_tests : Drive → List ℕ → List ℕ → List ℕ → List Test
random_tests d v fcb b =
    closed_state d ∷ volume_length d v ∷ fcb_length fcb ∷ buffer_length b ∷ drive_code fcb ∷ bad_name false fcb NAME
    ∷ beyond (not (eqb (byte fcb R2) 0)) ∷ []

-- "the present record goes to the transfer buffer; set to n; cr is n mod 128 for random, plus 1 for sequential"
unfoldable pub read_done : Drive → List ℕ → List ℕ → ℕ → ℕ → Act
read_done d v fcb n cr =
    done 0 keeps [] (set_to fcb (slot_at d.geometry v (record_slot d.geometry v d.user (name_of fcb) n)) n cr)
    (read_bytes d.geometry v d.user (name_of fcb) n)

unfoldable pub read_sequential_act : Drive → List ℕ → List ℕ → List ℕ → Act
read_sequential_act d v fcb b =
    unless (sequential_tests d v fcb b ++ read_tests d.geometry v d.user (name_of fcb) (position fcb) Absent)
    (read_done d v fcb (position fcb) (position fcb % extent_records + 1))

unfoldable pub read_random_act : Drive → List ℕ → List ℕ → List ℕ → Act
read_random_act d v fcb b =
    unless (random_tests d v fcb b ++ read_tests d.geometry v d.user (name_of fcb) (random fcb) NoGroup)
    (read_done d v fcb (random fcb) (random fcb % extent_records))
