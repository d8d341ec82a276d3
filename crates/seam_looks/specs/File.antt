-- A file's line for any geometry, as an exported call gives it: the next file by its lowest slot.
use Rattle.std.specs.Prelude.{not, cond, List, [], ◌∷◌, ℕ, leb, eqb, length}
use Rattle.disk_geometry.specs.Geometry.{bytes, slots}
use Rattle.disk_volume.specs.Directory.{slot_at}
use Rattle.files.specs.Files.{next_file}
use Rattle.files.specs.Line.{file_length, file_bytes}
use Rattle.call_answers.specs.declared.Refusal.{Refusal}
use Rattle.call_answers.specs.declared.Refusal.TheVariants.{Closed, VolumeLength, BufferLength, NoMatch}
use Rattle.call_answers.specs.declared.Answer.TheVariants.{Ready, Refused}
use Rattle.call_answers.specs.Refusal.{test, is_none, first_met}
use Rattle.filecalls.specs.declared.Drive.{Drive}
use Rattle.filecalls.specs.State.{is_open}
use Rattle.drive_bytes.specs.Layout.{decoded}
use Rattle.seam_words.specs.Answered.{answered}

-- 32, 33, 35; then 255 where no slot from `from` on stands for a file
abbrev pub file_why : Drive → List ℕ → ℕ → List ℕ → Refusal
file_why d v from f =
    first_met
    (test Closed (not (is_open d))
    ∷ test VolumeLength (not (eqb (length v) (bytes d.geometry)))
    ∷ test BufferLength (not (eqb (length f) file_length))
    ∷ test NoMatch (leb (slots d.geometry) (next_file d.geometry v from)) ∷ [])

-- the answer, and the bytes of the file
pub record Shown : Type 0 where
  pub answer : ℕ
  pub file : List ℕ

abbrev pub shown : ℕ → List ℕ → Shown
shown r f = record { answer = r; file = f }

-- 0 with the file's lowest slot as the value, and its line; a refusal changes nothing
abbrev pub file_for : Drive → List ℕ → ℕ → List ℕ → Shown
file_for d v from f =
    let g = d.geometry in
    let slot = next_file g v from in
    let why = file_why d v from f in
    cond (is_none why) (shown (answered (Ready slot)) (file_bytes g v (slot_at g v slot))) (shown (answered (Refused why)) f)

unfoldable pub file_at_seam : List ℕ → List ℕ → ℕ → List ℕ → Shown
file_at_seam s v from f = file_for (decoded s) v from f
