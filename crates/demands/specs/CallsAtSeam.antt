-- Demands 1 and 2, of what C calls. They speak of single calls, from any state. At the seam the state is the drive's bytes,
-- and of the answer C has one number; by its halves it can tell whether the call succeeded. So everything that these demands
-- look at in what `step` leaves is what `churawel_call` leaves (`SeamCalls`), and their sentences hold of it
-- (`Demand1AtSeam`, `Demand2AtSeam`). The drive's bytes may be any: those that count as closed are refused by 32.
use Rattle.std.specs.Prelude.{◌≡◌, Bool, true, false, not, ◌&&◌, ◌≢◌, List, [], ◌∷◌, ℕ, ◌+◌, ◌-◌, ◌≤◌, ◌<◌, length, get_or}
use Rattle.lists.specs.Bounded.{count_from}
use Rattle.disk_geometry.specs.declared.Geometry.{Geometry}
use Rattle.disk_geometry.specs.Geometry.{lawful, bytes, slots, blocks, directory_blocks_of}
use Rattle.disk_volume.specs.Name.{name_of}
use Rattle.disk_held.specs.Held.{holds}
use Rattle.call_fcb.specs.Fcb.{position}
use Rattle.call_answers.specs.Refusal.{Test, refusal_number, is_none, first_met}
use Rattle.call_answers.specs.Answer.{number_of, value_of, succeeded}
use Rattle.disk_rules.specs.GoodSlot.{named_below, good_slot}
use Rattle.call_decide.specs.Write.{needs_block}
use Rattle.filecalls.specs.Outcome.{Outcome}
use Rattle.filecalls.specs.State.{is_open}
use Rattle.call_served.specs.declared.Call.TheVariants.{LogIn}
use Rattle.bdos.specs.Step.{step}
use Rattle.call_served.specs.Asked.{Asked, asked}
use Rattle.drive_bytes.specs.Layout.{drive_bytes, decoded}
use Rattle.seam_calls.specs.Seam.{sealed, log_in_at_seam, zeros}
use Rattle.demands.specs.Order.{numbers_of, refusals_of, among, answers_of}
use Rattle.demands.specs.Demand1.{call, tests}
use Rattle.demands.specs.Demand2.{Writes, Reads, earlier, NoneFree, Sound, Present}
use Rattle.numbers.specs.Numbers.{Bytes}
use Rattle.demands.specs.AtSeam.{call_at_seam, number_in, value_in, succeeded_in}

-- ---- a call
-- bytes that are an open drive
pub record OpenDrive (s : List ℕ) : Type 0 where
  pub bytes_are : Bytes s
  pub opens : is_open (decoded s) ≡ true

-- what the door leaves in that state
abbrev pub behind : Asked → List ℕ → List ℕ → Outcome
behind c s v = step (decoded s).geometry c (decoded s) v

pub record LeavesSame (c : Asked) (s v : List ℕ) : Type 0 where
  pub number_is : number_in (call_at_seam c s v) ≡ number_of (behind c s v).answer
  pub value_is : value_in (call_at_seam c s v) ≡ value_of (behind c s v).answer
  pub success_is : succeeded_in c (call_at_seam c s v) ≡ succeeded (behind c s v).answer
  pub state_is : c.parameter < 256 → decoded (call_at_seam c s v).drive ≡ (behind c s v).drive
  pub volume_is : (call_at_seam c s v).volume ≡ (behind c s v).volume
  pub fcb_is_lem : (call_at_seam c s v).fcb ≡ (behind c s v).fcb
  pub buffer_is_lem : (call_at_seam c s v).buffer ≡ (behind c s v).buffer

abbrev pub SeamCalls : Type 0
SeamCalls = (c : Asked) (s v : List ℕ) → OpenDrive s → LeavesSame c s v

-- ---- demand 1
pub record Demand1AtSeam : Type 0 where
  -- a drive that counts as closed: 32, nothing changed
  pub closed_refused : (c : Asked) (s v : List ℕ) → is_open (decoded s) ≡ false → call_at_seam c s v ≡ sealed 32 s v c.fcb c.buffer
  -- "a refused call leaves volume, control block, buffer and state as given": the drive's bytes too
  pub refused_leaves_all : (c : Asked) (s v : List ℕ) → OpenDrive s → call c ≢ LogIn → succeeded_in c (call_at_seam c s v) ≡ false
      → call_at_seam c s v ≡ sealed (call_at_seam c s v).answer s v c.fcb c.buffer
  -- "a refused log-in hands back the closed value": zeros, as of a refused `churawel_log_in` (`RefusedLogInCloses`)
  pub refused_log_in_closes : (c : Asked) (s v : List ℕ) → OpenDrive s → call c ≡ LogIn → succeeded_in c (call_at_seam c s v) ≡ false
      → call_at_seam c s v ≡ sealed (call_at_seam c s v).answer (zeros s) v c.fcb c.buffer
  -- "the answer is one of the paper's for that call"
  pub success_of_paper : (c : Asked) (s v : List ℕ) → OpenDrive s → succeeded_in c (call_at_seam c s v) ≡ true
      → answers_of (call c) (number_in (call_at_seam c s v)) ≡ true
  pub refusal_of_paper : (c : Asked) (s v : List ℕ) → OpenDrive s → succeeded_in c (call_at_seam c s v) ≡ false
      → among (number_in (call_at_seam c s v)) (numbers_of (refusals_of (call c))) ≡ true
  -- the first test that is met refuses by its own number; where none is met the call succeeds
  pub first_test_refuses : (c : Asked) (s v : List ℕ) → OpenDrive s → is_none (first_met (tests (decoded s).geometry c (decoded s) v)) ≡ false
      → (succeeded_in c (call_at_seam c s v) ≡ false)
      × (number_in (call_at_seam c s v) ≡ refusal_number (first_met (tests (decoded s).geometry c (decoded s) v)))
  pub no_test_succeeds : (c : Asked) (s v : List ℕ) → OpenDrive s → is_none (first_met (tests (decoded s).geometry c (decoded s) v)) ≡ true
      → succeeded_in c (call_at_seam c s v) ≡ true

-- ---- demand 2
-- records written by function 21 one after another, each time with the drive, the volume and the control block that the last
-- left: whether all succeed, and the volume at the end
abbrev pub all_written_at_seam : ℕ → List (List ℕ) → List ℕ → List ℕ → List ℕ → Bool
all_written_at_seam p [] s v fcb = true
all_written_at_seam p (r ∷ rs) s v fcb =
    let o = call_at_seam (asked 21 p fcb r) s v in
    succeeded_in (asked 21 p fcb r) o && all_written_at_seam p rs o.drive o.volume o.fcb

abbrev pub volume_written : ℕ → List (List ℕ) → List ℕ → List ℕ → List ℕ → List ℕ
volume_written p [] s v fcb = v
volume_written p (r ∷ rs) s v fcb =
    let o = call_at_seam (asked 21 p fcb r) s v in
    volume_written p rs o.drive o.volume o.fcb

pub record Demand2AtSeam : Type 0 where
  -- "a write that meets no earlier refusal and needs a block is refused by 2 exactly when no block .. is free"
  pub refused_none_free : (c : Asked) (s v : List ℕ) → OpenDrive s → (n : ℕ) (r : List ℕ) → Writes c.fcb c.buffer (call c) n r
      → is_none (first_met (earlier (tests (decoded s).geometry c (decoded s) v))) ≡ true
      → needs_block (decoded s).geometry v (decoded s).user (name_of c.fcb) n ≡ true
      → number_in (call_at_seam c s v) ≡ 2 → NoneFree (decoded s)
  pub none_free_refused : (c : Asked) (s v : List ℕ) → OpenDrive s → (n : ℕ) (r : List ℕ) → Writes c.fcb c.buffer (call c) n r
      → is_none (first_met (earlier (tests (decoded s).geometry c (decoded s) v))) ≡ true
      → needs_block (decoded s).geometry v (decoded s).user (name_of c.fcb) n ≡ true
      → NoneFree (decoded s) → number_in (call_at_seam c s v) ≡ 2
  -- "after a successful write of record n, n is present with the bytes written"
  pub write_stores_lem : (c : Asked) (s v : List ℕ) → OpenDrive s → (n : ℕ) (r : List ℕ) → Writes c.fcb c.buffer (call c) n r
      → succeeded_in c (call_at_seam c s v) ≡ true → Present (decoded s) c.fcb (call_at_seam c s v).volume n r
  -- "and every other record of that file that was present is present with the same bytes"
  pub write_keeps_others : (c : Asked) (s v : List ℕ) → OpenDrive s → (n : ℕ) (r : List ℕ) → Writes c.fcb c.buffer (call c) n r
      → succeeded_in c (call_at_seam c s v) ≡ true → Sound (decoded s) v
      → (m : ℕ) → m ≢ n → (x : List ℕ) → Present (decoded s) c.fcb v m x → Present (decoded s) c.fcb (call_at_seam c s v).volume m x
  -- a read that succeeds shows the record's bytes, and one that is lent what it should be succeeds where the record is present
  pub read_shows : (c : Asked) (s v : List ℕ) → OpenDrive s → (n : ℕ) (ts : List Test) → Reads (decoded s) v c.fcb c.buffer (call c) n ts
      → succeeded_in c (call_at_seam c s v) ≡ true → Present (decoded s) c.fcb v n (call_at_seam c s v).buffer
  pub present_is_read : (c : Asked) (s v : List ℕ) → OpenDrive s → (n : ℕ) (ts : List Test) → Reads (decoded s) v c.fcb c.buffer (call c) n ts
      → is_none (first_met ts) ≡ true → Sound (decoded s) v → (r : List ℕ) → Present (decoded s) c.fcb v n r
      → succeeded_in c (call_at_seam c s v) ≡ true
  -- "k sequential writes that all succeed leave k records with their own bytes"
  pub sequential_writes : (p : ℕ) → p < 256 → (rs : List (List ℕ)) (s v fcb : List ℕ) → OpenDrive s → Sound (decoded s) v
      → all_written_at_seam p rs s v fcb ≡ true
      → (j : ℕ) → j < length rs → Present (decoded s) fcb (volume_written p rs s v fcb) (position fcb + j) (get_or rs j [])
  -- "Log-in accepts exactly when all slots are good": it answers 0
  pub accepts_good : (g : Geometry) (v s : List ℕ) → length s ≡ drive_bytes (blocks g) → lawful g ≡ true → length v ≡ bytes g
      → ((i : ℕ) → i < slots g → good_slot g v i ≡ true) → number_in (log_in_at_seam g v s) ≡ 0
  pub accepted_is_good : (g : Geometry) (v s : List ℕ) → length s ≡ drive_bytes (blocks g) → number_in (log_in_at_seam g v s) ≡ 0
      → (i : ℕ) → i < slots g → good_slot g v i ≡ true
  pub accepted_is_sound : (g : Geometry) (v s : List ℕ) → length s ≡ drive_bytes (blocks g) → number_in (log_in_at_seam g v s) ≡ 0
      → Sound (decoded (log_in_at_seam g v s).drive) v
  -- "log-in's count equals the number of free blocks", and "its held blocks are exactly those named by entries"
  pub log_in_count : (g : Geometry) (v s : List ℕ) → length s ≡ drive_bytes (blocks g) → number_in (log_in_at_seam g v s) ≡ 0
      → value_in (log_in_at_seam g v s) ≡ count_from (λ b. not (named_below g v (slots g) b)) (directory_blocks_of g) (blocks g - directory_blocks_of g)
  pub log_in_holds : (g : Geometry) (v s : List ℕ) → length s ≡ drive_bytes (blocks g) → number_in (log_in_at_seam g v s) ≡ 0
      → (b : ℕ) → directory_blocks_of g ≤ b → b < blocks g → holds (decoded (log_in_at_seam g v s).drive).held b ≡ named_below g v (slots g) b
  pub log_in_holds_no_other : (g : Geometry) (v s : List ℕ) → length s ≡ drive_bytes (blocks g) → number_in (log_in_at_seam g v s) ≡ 0
      → (b : ℕ) → holds (decoded (log_in_at_seam g v s).drive).held b ≡ true → (directory_blocks_of g ≤ b) × (b < blocks g)
