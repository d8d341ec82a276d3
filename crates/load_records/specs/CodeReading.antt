-- Words of the code that reads a file; not for the reader of the paper. A load is done over a front: no read looks at a held block, so
-- what is said of the front without any is so for every drive that has it (proofs/FrontLaws).
use Rattle.std.specs.Prelude.{◌≡◌, true, List, [], ◌∷◌, ℕ, ◌<◌, length}
use Rattle.call_fcb.specs.Fcb.{fcb_bytes}
use Rattle.call_answers.specs.declared.Refusal.{Refusal}
use Rattle.call_answers.specs.declared.Refusal.TheVariants.{FcbLength}
use Rattle.call_answers.specs.Refusal.{test, is_none, first, first_met}
use Rattle.filecalls.specs.declared.Front.{Front}
use Rattle.filecalls.specs.declared.Drive.{Drive}
use Rattle.filecalls.specs.CodeFront.{joined}
use Rattle.filecalls.specs.Tests.{closed_state, volume_length}
use Rattle.load_records.specs.declared.Seen.{Seen}
use Rattle.load_records.specs.Records.{unread, record_of, unsized, records, first_from, image_records, read_why}

-- the drive of that front that has no words of held blocks
abbrev pub bare : Front → Drive
bare w = joined w []

-- a read with a control block of another length than 36, whatever its bytes are: 32, 33 or 34
unfoldable pub short_why : Drive → List ℕ → Refusal
short_why d v = first_met (closed_state d ∷ volume_length d v ∷ test FcbLength true ∷ [])

-- what reading a file to its end tells: why it is refused, its record 0 and, where it is not refused, its size
pub record AllRead (d : Drive) (v f h : List ℕ) (r : Seen) : Type 0 where
  pub refusal : r.why ≡ read_why d v f
  pub header : h ≡ record_of d v f 0
  pub lent : is_none r.why ≡ true → length f ≡ fcb_bytes
  pub size : is_none r.why ≡ true → r.records ≡ records d v f
  pub few : r.records < 16777216

-- the same where record 0 was read
pub record RestRead (d : Drive) (v f : List ℕ) (r : Seen) : Type 0 where
  pub refusal : r.why ≡ first (unsized d v f) (first_from (unread d v f) 1 (image_records d v f))
  pub size : r.records ≡ records d v f
  pub few : r.records < 16777216
