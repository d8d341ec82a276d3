-- The ladder in the groups in which the code asks it; not for the reader of the paper.
use Rattle.std.specs.Prelude.{Bool, true, false, not, ◌&&◌, List, [], ◌∷◌, ◌++◌, ℕ, leb, ltb, eqb, length}
use Rattle.lists.specs.Bytes.{byte}
use Rattle.disk_geometry.specs.Geometry.{bytes, slots, record_bytes}
use Rattle.disk_volume.specs.Fields.{NAME, EX}
use Rattle.disk_volume.specs.Name.{WILDCARD, name_of, good_name}
use Rattle.call_fcb.specs.Fcb.{DR, R2, fcb_bytes, file_records, position, position_fits}
use Rattle.call_read.specs.Read.{read_tests}
use Rattle.call_answers.specs.declared.Refusal.{Refusal}
use Rattle.call_answers.specs.declared.Refusal.TheVariants.{VolumeLength, FcbLength, BufferLength, DriveCode, Name, Position, NoMatch}
use Rattle.call_answers.specs.Refusal.{Test, test}
use Rattle.filecalls.specs.declared.KeptSearch.{KeptSearch}
use Rattle.filecalls.specs.declared.Drive.{Drive}
use Rattle.filecalls.specs.Outcome.{Act, unless}
use Rattle.filecalls.specs.Read.{read_done}
use Rattle.filecalls.specs.Search.{examined, hit, hit_act}
use Rattle.filecalls.specs.Tests.{closed_state, volume_length, fcb_length, drive_code, bad_name, too_large, beyond}

-- 32 to 35, by the lengths that are lent
unfoldable pub lent_tests : Drive → ℕ → ℕ → ℕ → List Test
lent_tests d v fcb b =
    closed_state d
    ∷ test VolumeLength (not (eqb v (bytes d.geometry)))
    ∷ test FcbLength (not (eqb fcb fcb_bytes))
    ∷ test BufferLength (not (eqb b record_bytes))
    ∷ []

-- the same, 42 and 39
unfoldable pub named_tests : Drive → List ℕ → List ℕ → ℕ → Bool → List Test
named_tests d v fcb b pattern =
    closed_state d
    ∷ test VolumeLength (not (eqb (length v) (bytes d.geometry)))
    ∷ test FcbLength (not (eqb (length fcb) fcb_bytes))
    ∷ test BufferLength (not (eqb b record_bytes))
    ∷ drive_code fcb
    ∷ bad_name pattern fcb NAME
    ∷ []

-- the same of a call that is lent no buffer
abbrev pub plain_tests : Drive → List ℕ → List ℕ → Bool → List Test
plain_tests d v fcb pattern =
    closed_state d ∷ volume_length d v ∷ fcb_length fcb ∷ drive_code fcb ∷ bad_name pattern fcb NAME ∷ []

-- the same, and what a sequential call and a random one ask of the control block
unfoldable pub sequential_lent : Drive → List ℕ → List ℕ → ℕ → List Test
sequential_lent d v fcb b =
    named_tests d v fcb b false ++ (too_large (position_fits fcb) ∷ beyond (eqb (position fcb) file_records) ∷ [])

unfoldable pub random_lent : Drive → List ℕ → List ℕ → ℕ → List Test
random_lent d v fcb b = named_tests d v fcb b false ++ (beyond (not (eqb (byte fcb R2) 0)) ∷ [])

-- the tests of search first but the last
unfoldable pub first_lent : Drive → List ℕ → List ℕ → List ℕ → List Test
first_lent d v fcb b =
    lent_tests d (length v) (length fcb) (length b)
    ++ (test DriveCode (ltb 1 (byte fcb DR) && examined fcb)
    ∷ test Name (examined fcb && not (good_name true (name_of fcb)))
    ∷ test Position (examined fcb && ltb 31 (byte fcb EX) && not (eqb (byte fcb EX) WILDCARD))
    ∷ [])

-- what a read of record n and a search from a slot on still do once what is lent has passed
abbrev pub read_record_act : Drive → List ℕ → List ℕ → ℕ → ℕ → Refusal → Act
read_record_act d v fcb n cr missing =
    unless (read_tests d.geometry v d.user (name_of fcb) n missing) (read_done d v fcb n cr)

abbrev pub search_on_act : Drive → List ℕ → List ℕ → KeptSearch → ℕ → Act
search_on_act d v fcb q from =
    unless (test NoMatch (leb (slots d.geometry) (hit d.geometry v q from)) ∷ [])
    (hit_act d v fcb q (hit d.geometry v q from))
