-- The demands, of what C calls. A run at the seam is one `churawel_log_in` and then any list of calls of `churawel_call`,
-- refused ones and numbers that are not served among them, with any lent lengths, each given the drive's bytes and the
-- volume that the last left; what the two functions leave is what their contracts say. On a volume that passes inspection it
-- shows the answers, as numbers, the control blocks and the buffers of the run of `step` with that geometry, leaves its
-- volume, and its successful calls touch the same files (`SeamRuns`). So demand 3 is said of what C calls
-- (`Demand3AtSeam`); demands 1 and 2, which speak of single calls, are said of it in `CallsAtSeam`.
--
-- On any other volume it does so up to a log-in that is refused. From then on the drive is closed: every call, log-in too,
-- answers 32 and changes nothing, until C logs in again (`SeamRunsOnAny`).
use Rattle.std.specs.Prelude.{◌≡◌, Bool, true, false, cond, ◌&&◌, ◌||◌, List, [], ◌∷◌, map, ℕ, ◌/◌, ◌%◌, ◌<◌, ltb, length}
use Rattle.disk_geometry.specs.declared.Geometry.{Geometry}
use Rattle.disk_geometry.specs.Geometry.{lawful, bytes, slots, blocks, directory_blocks_of}
use Rattle.disk_held.specs.Held.{free_count}
use Rattle.call_answers.specs.declared.Refusal.TheVariants.{Closed}
use Rattle.call_answers.specs.declared.Answer.TheVariants.{Refused, Ready}
use Rattle.disk_rules.specs.GoodSlot.{lowest_bad}
use Rattle.disk_rules.specs.Named.{held_of}
use Rattle.filecalls.specs.declared.Drive.{Drive}
use Rattle.filecalls.specs.Outcome.{left}
use Rattle.filecalls.specs.State.{is_open, closed}
use Rattle.bdos.specs.Step.{step}
use Rattle.call_served.specs.Asked.{Asked, asked}
use Rattle.drive_bytes.specs.Layout.{drive_bytes, decoded}
use Rattle.seam_words.specs.Answered.{answered}
use Rattle.seam_calls.specs.Seam.{Sealed, at_seam, log_in_at_seam}
use Rattle.demands.specs.Run.{Seen, seen, Way, answers, final, final_state, plain}
use Rattle.demands.specs.Order.{codes_of, is_several}
use Rattle.demands.specs.Demand1.{call}
use Rattle.demands.specs.Demand2.{Sound}
use Rattle.numbers.specs.Numbers.{Bytes}
use Rattle.demands.specs.Demand3.{touches, touched, Kept}

-- ---- a run at the seam
-- what C sees of a call: the answer as one number, the control block and the transfer buffer
pub record SeenAtSeam : Type 0 where
  pub answer : ℕ
  pub fcb : List ℕ
  pub buffer : List ℕ

abbrev pub seen_at_seam : Sealed → SeenAtSeam
seen_at_seam o = record { answer = o.answer; fcb = o.fcb; buffer = o.buffer }

-- the same of a call at the door
abbrev pub in_numbers : Seen → SeenAtSeam
in_numbers s = record { answer = answered s.answer; fcb = s.fcb; buffer = s.buffer }

-- what `churawel_call` leaves, by the drive's bytes and the volume
abbrev pub call_at_seam : Asked → List ℕ → List ℕ → Sealed
call_at_seam c s v = at_seam c.function c.parameter s v c.fcb c.buffer

-- "the answer's number in the low 16 bits", the value beside it in the high 16
abbrev pub number_in : Sealed → ℕ
number_in o = o.answer % 65536

abbrev pub value_in : Sealed → ℕ
value_in o = o.answer / 65536

-- it succeeded: the number is one of the codes that the call succeeds with; of several records, one was done
abbrev pub succeeded_in : Asked → Sealed → Bool
succeeded_in c o = cond (is_several (call c)) (ltb 0 (value_in o)) (ltb (number_in o) (codes_of (call c)))

-- what is seen of each call, and the volume and the drive's bytes at the end
unfoldable pub answers_at_seam : List Asked → List ℕ → List ℕ → List SeenAtSeam
answers_at_seam [] s v = []
answers_at_seam (c ∷ cs) s v = seen_at_seam (call_at_seam c s v) ∷ answers_at_seam cs (call_at_seam c s v).drive (call_at_seam c s v).volume

unfoldable pub final_at_seam : List Asked → List ℕ → List ℕ → List ℕ
final_at_seam [] s v = v
final_at_seam (c ∷ cs) s v = final_at_seam cs (call_at_seam c s v).drive (call_at_seam c s v).volume

unfoldable pub drive_at_seam : List Asked → List ℕ → List ℕ → List ℕ
drive_at_seam [] s v = s
drive_at_seam (c ∷ cs) s v = drive_at_seam cs (call_at_seam c s v).drive (call_at_seam c s v).volume

-- a successful call touches the file
unfoldable pub touched_at_seam : List Asked → List ℕ → List ℕ → ℕ → List ℕ → Bool
touched_at_seam [] s v u name = false
touched_at_seam (c ∷ cs) s v u name =
    (succeeded_in c (call_at_seam c s v) && touches c (decoded s) u name)
    || touched_at_seam cs (call_at_seam c s v).drive (call_at_seam c s v).volume u name

-- the run: `churawel_log_in` of the volume v, with the bytes s for the drive, and then the calls
module _ (g : Geometry) (v s : List ℕ) (cs : List Asked) where
  abbrev pub seen_in_run : List SeenAtSeam
  seen_in_run = seen_at_seam (log_in_at_seam g v s) ∷ answers_at_seam cs (log_in_at_seam g v s).drive v

  abbrev pub volume_left : List ℕ
  volume_left = final_at_seam cs (log_in_at_seam g v s).drive v

  abbrev pub drive_left : List ℕ
  drive_left = drive_at_seam cs (log_in_at_seam g v s).drive v

  abbrev pub files_touched : ℕ → List ℕ → Bool
  files_touched u name = touched_at_seam cs (log_in_at_seam g v s).drive v u name

-- what C hands over beside volume and buffer is bytes
abbrev pub FromC : List Asked → Type 0
FromC [] = Unit {0}
FromC (c ∷ cs) = (c.parameter < 256) × Bytes c.fcb × FromC cs

-- ---- the run at the door that it is
-- log-in, which is lent neither control block nor buffer
abbrev pub logs_in : Asked
logs_in = asked 13 0 [] []

-- it shows and leaves what log-in at the door does, and then these calls, done in this way; the state that log-in is given
-- may be any, since it looks at none
pub record Runs (way : Way) (g : Geometry) (v s : List ℕ) (cs : List Asked) : Type 0 where
  pub shows : seen_in_run g v s cs ≡ map in_numbers (seen (step g logs_in closed v) ∷ answers way cs (step g logs_in closed v).drive v)
  pub volume_is : volume_left g v s cs ≡ final way cs (step g logs_in closed v).drive v
  pub state_is : decoded (drive_left g v s cs) ≡ final_state way cs (step g logs_in closed v).drive v
  pub touches_are : (u : ℕ) (name : List ℕ) → files_touched g v s cs u name ≡ touched way cs (step g logs_in closed v).drive v u name

-- any geometry within the rules, any volume of its length that passes inspection, a drive of the length that T asks, any calls
abbrev pub OverSeamRuns : (Geometry → List ℕ → List ℕ → List Asked → Type 0) → Type 0
OverSeamRuns Says =
    (g : Geometry) → lawful g ≡ true → (v : List ℕ) → length v ≡ bytes g → lowest_bad g v ≡ slots g
    → (s : List ℕ) → length s ≡ drive_bytes (blocks g) → (cs : List Asked) → FromC cs → Says g v s cs

abbrev pub SeamRuns : Type 0
SeamRuns = OverSeamRuns (λ g v s cs. Runs (step g) g v s cs)

-- ---- the demands
-- what demand 3 says: answers, control blocks and buffers are those of the plain way; so is the volume, which passes
-- inspection, and the files that no successful call touched are in it as they were (`Kept`). A further log-in accepts.
pub record KeptAtSeam (g : Geometry) (v s : List ℕ) (cs : List Asked) (e : Drive) : Type 0 where
  pub shows_plain : seen_in_run g v s cs ≡ map in_numbers (answers (plain (step g)) (logs_in ∷ cs) e v)
  pub kept : Kept (step g) g v (logs_in ∷ cs) e (answers (step g) (logs_in ∷ cs) closed v) (volume_left g v s cs) (files_touched g v s cs)
  pub accepts_again : (t : List ℕ) → length t ≡ drive_bytes (blocks g)
      → (log_in_at_seam g (volume_left g v s cs) t).answer ≡ answered (Ready (free_count (held_of g (volume_left g v s cs)) (directory_blocks_of g) (blocks g)))

abbrev pub Demand3AtSeam : Type 0
Demand3AtSeam = OverSeamRuns (λ g v s cs. (e : Drive) → KeptAtSeam g v s cs e)

-- after each run the drive is open, its geometry is that of the log-in, and state and volume are as demand 2 asks it of
-- writes: so demands 1 and 2 hold of the next call at the seam (`CallsAtSeam`)
pub record ReadyAtSeam (g : Geometry) (v s : List ℕ) (cs : List Asked) : Type 0 where
  pub opens : is_open (decoded (drive_left g v s cs)) ≡ true
  pub geometry_is : (decoded (drive_left g v s cs)).geometry ≡ g
  pub sound : Sound (decoded (drive_left g v s cs)) (volume_left g v s cs)

abbrev pub AlwaysReady : Type 0
AlwaysReady = OverSeamRuns (λ g v s cs. ReadyAtSeam g v s cs)

-- ---- and on any volume
-- as in this way while the drive is open; a closed one is refused by 32 whatever is asked
unfoldable pub while_open : Way → Way
while_open way c d v = cond (is_open d) (way c d v) (left (record { answer = Refused Closed; drive = d }) v c.fcb c.buffer)

abbrev pub SeamRunsOnAny : Type 0
SeamRunsOnAny = (g : Geometry) (v s : List ℕ) → length s ≡ drive_bytes (blocks g) → (cs : List Asked) → FromC cs → Runs (while_open (step g)) g v s cs
