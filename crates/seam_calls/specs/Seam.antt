-- What an exported call leaves, for every input: its answer as one number, and every lent byte.
use Rattle.std.specs.Prelude.{cond, List, [], ℕ, ◌+◌, ◌*◌, min, eqb, length, replicate}
use Rattle.disk_geometry.specs.declared.Geometry.{Geometry}
use Rattle.disk_geometry.specs.Geometry.{blocks}
use Rattle.call_answers.specs.declared.Refusal.TheVariants.{Closed}
use Rattle.call_answers.specs.declared.Answer.TheVariants.{Refused}
use Rattle.filecalls.specs.declared.Drive.{Drive}
use Rattle.filecalls.specs.State.{is_open}
use Rattle.filecalls.specs.Stores.{refused_by}
use Rattle.filecalls.specs.Outcome.{Outcome}
use Rattle.filecalls.specs.LogIn.{log_in}
use Rattle.bdos.specs.Step.{step}
use Rattle.bdos.specs.Stores.{stores_of, cut_volume}
use Rattle.call_served.specs.Asked.{Asked, asked}
use Rattle.seam_words.specs.Answered.{answered}
use Rattle.drive_bytes.specs.Layout.{drive_bytes, blocks_at, decoded, encoded_in}

-- the answer, and the bytes of drive, volume, control block and transfer buffer
pub record Sealed : Type 0 where
  pub answer : ℕ
  pub drive : List ℕ
  pub volume : List ℕ
  pub fcb : List ℕ
  pub buffer : List ℕ

abbrev pub sealed : ℕ → List ℕ → List ℕ → List ℕ → List ℕ → Sealed
sealed r s v fcb b = record { answer = r; drive = s; volume = v; fcb = fcb; buffer = b }

-- all that a call at the door leaves, the state in the drive's bytes s
abbrev pub through : List ℕ → Outcome → Sealed
through s o = sealed (answered o.answer) (encoded_in o.drive s) o.volume o.fcb o.buffer

-- "Any other length or byte pattern counts as closed: 32, nothing changed"
abbrev pub refused_closed : List ℕ → List ℕ → List ℕ → List ℕ → Sealed
refused_closed s v fcb b = sealed (answered (Refused Closed)) s v fcb b

-- a call: by function's number, parameter, and the bytes of drive, volume, control block and buffer. The geometry is the
-- drive's own, so that 13 and 37 log in anew with it.
unfoldable pub at_seam : ℕ → ℕ → List ℕ → List ℕ → List ℕ → List ℕ → Sealed
at_seam n p s v fcb b =
    cond (is_open (decoded s)) (through s (step (decoded s).geometry (asked n p fcb b) (decoded s) v))
    (refused_closed s v fcb b)

-- log-in: by geometry, and the bytes of volume and drive; it is lent neither control block nor buffer. "The length that a drive
-- must have is that of T alone"
unfoldable pub log_in_at_seam : Geometry → List ℕ → List ℕ → Sealed
log_in_at_seam g v s =
    cond (eqb (length s) (drive_bytes (blocks g)))
    (sealed (answered (log_in g v).answer) (encoded_in (log_in g v).drive s) v [] [])
    (refused_closed s v [] [])

-- the drive when the machine is gone: zero bytes, as many as it had, "the closed state"
abbrev pub zeros : List ℕ → List ℕ
zeros s = replicate (length s) 0

-- a call with at most so many stores: "the call's refusal number (0 where the call is not refused) in the low 16 bits and how
-- many stores were made in the high 16"; the volume so cut, control block and buffer as given, the drive closed
abbrev pub cut_open : ℕ → Asked → List ℕ → Drive → List ℕ → Sealed
cut_open most c s d v =
    sealed (refused_by (step d.geometry c d v).answer + 65536 * min most (length (stores_of c d v))) (zeros s)
    (cut_volume d.geometry c d v most) c.fcb c.buffer

-- "a drive of another length is 32 and stays as it is"; one that counts as closed is 32, and no store is made
unfoldable pub cut_at_seam : ℕ → ℕ → ℕ → List ℕ → List ℕ → List ℕ → List ℕ → Sealed
cut_at_seam most n p s v fcb b =
    let as_open : Sealed = cut_open most (asked n p fcb b) s (decoded s) v in
    let closes : Sealed = cond (is_open (decoded s)) as_open (refused_closed (zeros s) v fcb b) in
    cond (eqb (length s) (drive_bytes (blocks_at s))) closes (refused_closed s v fcb b)
