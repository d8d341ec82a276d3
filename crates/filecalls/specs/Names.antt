-- The calls on names: delete (19), make (22), rename (23), attributes (30). "Make, and rename for its new name, refuse" a
-- name that can't be typed, "straight after 39".
use Rattle.std.specs.Prelude.{true, false, List, [], ◌∷◌, ℕ, ◌%◌, leb, eqb}
use Rattle.lists.specs.Bytes.{byte, part}
use Rattle.disk_volume.specs.declared.Wanted.TheVariants.{Empty, File}
use Rattle.disk_geometry.specs.Geometry.{slots, record_slots}
use Rattle.disk_volume.specs.Fields.{NAME, EX, name_bytes}
use Rattle.disk_volume.specs.Name.{name_of}
use Rattle.disk_volume.specs.Entry.{of_file, matches}
use Rattle.disk_volume.specs.Directory.{find_slot}
use Rattle.disk_stores.specs.Stores.{entry_stores, directory_records, sweep_stores}
use Rattle.call_fcb.specs.Fcb.{NEWNAME, new_name, made}
use Rattle.call_answers.specs.declared.Refusal.TheVariants.{NoMatch}
use Rattle.call_answers.specs.Refusal.{Test, test}
use Rattle.call_sweep.specs.Sweep.{erased, renamed, attributed}
use Rattle.call_delete.specs.Delete.{delete_tests}
use Rattle.call_make.specs.Make.{make_tests, fresh_entry}
use Rattle.call_rename.specs.Rename.{rename_tests}
use Rattle.filecalls.specs.declared.Drive.{Drive}
use Rattle.filecalls.specs.Tests.{closed_state, volume_length, fcb_length, drive_code, bad_name, untypeable, too_large, protected_drive}
use Rattle.filecalls.specs.Outcome.{keeps, frees, Act, done, unless}

-- "byte 0 of all matching entries of the user (3FH allowed) becomes E5H, their blocks are free"
unfoldable pub delete_ladder : Drive → List ℕ → List ℕ → List Test
delete_ladder d v fcb =
    closed_state d ∷ volume_length d v ∷ fcb_length fcb ∷ drive_code fcb ∷ bad_name true fcb NAME ∷ protected_drive d
    ∷ delete_tests d.geometry v d.user (name_of fcb)

unfoldable pub delete_act : Drive → List ℕ → List ℕ → Act
delete_act d v fcb =
    unless (delete_ladder d v fcb)
    (done 0 (frees d.user (name_of fcb)) (sweep_stores d.geometry (matches d.user (name_of fcb)) erased v 0 (directory_records d.geometry)) fcb [])

-- "the lowest empty slot gets user, name without top bits, all else 0. Control block 1..11 likewise, 12..31 become 0."
unfoldable pub make_ladder : Drive → List ℕ → List ℕ → List Test
make_ladder d v fcb =
    closed_state d ∷ volume_length d v ∷ fcb_length fcb ∷ drive_code fcb ∷ bad_name false fcb NAME
    ∷ untypeable fcb NAME ∷ too_large (eqb (byte fcb EX) 0) ∷ protected_drive d
    ∷ make_tests d.geometry v d.user (name_of fcb)

unfoldable pub make_act : Drive → List ℕ → List ℕ → Act
make_act d v fcb =
    unless (make_ladder d v fcb)
    (done (find_slot d.geometry v d.user (name_of fcb) Empty % record_slots) keeps
    (entry_stores d.geometry v (find_slot d.geometry v d.user (name_of fcb) Empty) (fresh_entry d.user (name_of fcb)))
    (made fcb (name_of fcb)) [])

-- "old name in 1..11, new in 17..27; all entries of the file take the new one"
unfoldable pub rename_ladder : Drive → List ℕ → List ℕ → List Test
rename_ladder d v fcb =
    closed_state d ∷ volume_length d v ∷ fcb_length fcb ∷ drive_code fcb ∷ bad_name false fcb NAME
    ∷ bad_name false fcb NEWNAME ∷ untypeable fcb NEWNAME ∷ protected_drive d
    ∷ rename_tests d.geometry v d.user (name_of fcb) (new_name fcb)

unfoldable pub rename_act : Drive → List ℕ → List ℕ → Act
rename_act d v fcb =
    unless (rename_ladder d v fcb)
    (done 0 keeps
    (sweep_stores d.geometry (of_file d.user (name_of fcb)) (λ e. renamed e (part fcb NEWNAME name_bytes)) v 0
    (directory_records d.geometry))
    fcb [])

-- "top bits of control block bytes 9 and 10 go to all entries of the file"
unfoldable pub attributes_ladder : Drive → List ℕ → List ℕ → List Test
attributes_ladder d v fcb =
    closed_state d ∷ volume_length d v ∷ fcb_length fcb ∷ drive_code fcb ∷ bad_name false fcb NAME ∷ protected_drive d
    ∷ test NoMatch (leb (slots d.geometry) (find_slot d.geometry v d.user (name_of fcb) File))
    ∷ []

unfoldable pub attributes_act : Drive → List ℕ → List ℕ → Act
attributes_act d v fcb =
    unless (attributes_ladder d v fcb)
    (done 0 keeps
    (sweep_stores d.geometry (of_file d.user (name_of fcb)) (λ e. attributed e (part fcb NAME name_bytes)) v 0
    (directory_records d.geometry))
    fcb [])
