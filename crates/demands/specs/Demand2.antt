-- Demand 2. "For each call, inputs admit only one outcome; a write that meets no earlier refusal and needs a block is
-- refused by 2 exactly when no block from D to T-1 is free; after a successful write of record n, n is present with the
-- bytes written, and every other record of that file that was present is present with the same bytes; k sequential writes
-- that all succeed leave k records with their own bytes; log-in's count equals the number of free blocks, and its held
-- blocks are exactly those named by entries."
-- Each sentence is a field of `Demand2Of`; that it holds is `demand2` in the proofs.
use Rattle.std.specs.Prelude.{◌≡◌, Bool, true, not, ◌&&◌, ◌≢◌, List, [], ◌∷◌, ℕ, ◌+◌, ◌-◌, ◌≤◌, ◌<◌, length, get_or}
use Rattle.lists.specs.Bounded.{count_from}
use Rattle.disk_geometry.specs.declared.Geometry.{Geometry}
use Rattle.disk_geometry.specs.Geometry.{lawful, bytes, slots, blocks, directory_blocks_of}
use Rattle.disk_volume.specs.Name.{name_of}
use Rattle.disk_volume.specs.Record.{present}
use Rattle.call_fcb.specs.Fcb.{position, random}
use Rattle.disk_held.specs.Held.{held_words, holds}
use Rattle.call_answers.specs.Refusal.{Test, is_none, first_met}
use Rattle.call_answers.specs.Answer.{number_of, value_of, succeeded}
use Rattle.disk_rules.specs.GoodSlot.{named_below, good_slot, lowest_bad}
use Rattle.disk_rules.specs.Named.{named}
use Rattle.call_read.specs.Read.{read_bytes}
use Rattle.call_decide.specs.Write.{needs_block}
use Rattle.filecalls.specs.declared.Drive.{Drive}
use Rattle.filecalls.specs.declared.Reply.{Reply}
use Rattle.filecalls.specs.Outcome.{left}
use Rattle.filecalls.specs.Read.{sequential_tests, random_tests}
use Rattle.call_served.specs.declared.Call.{Call}
use Rattle.call_served.specs.declared.Call.TheVariants.{LogIn, Moves}
use Rattle.call_served.specs.declared.Transfer.TheVariants.{ReadSequential, WriteSequential, ReadRandom, WriteRandom, WriteZeroFill}
use Rattle.bdos.specs.Step.{step}
use Rattle.call_served.specs.Asked.{Asked, asked}
use Rattle.demands.specs.Run.{Way}
use Rattle.demands.specs.Demand1.{call, tests}

-- ---- what the statement is written with
-- one of the writes: given control block and buffer, the record that it means and the bytes that it writes there
pub data Writes (fcb b : List ℕ) : Call → ℕ → List ℕ → Type 0 where
  sequential : Writes fcb b (Moves WriteSequential) (position fcb) b
  direct : Writes fcb b (Moves WriteRandom) (random fcb) b
  zero_filling : Writes fcb b (Moves WriteZeroFill) (random fcb) b

-- one of the reads: the record that it means, and its tests of what is lent
pub data Reads (d : Drive) (v fcb b : List ℕ) : Call → ℕ → List Test → Type 0 where
  in_sequence : Reads d v fcb b (Moves ReadSequential) (position fcb) (sequential_tests d v fcb b)
  at_random : Reads d v fcb b (Moves ReadRandom) (random fcb) (random_tests d v fcb b)

-- all tests but the last
abbrev pub earlier : List Test → List Test
earlier [] = []
earlier (t ∷ ts) = but_last t ts
  where
    but_last : Test → List Test → List Test
    but_last t [] = []
    but_last t (s ∷ ts) = t ∷ but_last s ts

-- each block from D to T-1 is held: none is free
abbrev pub NoneFree : Drive → Type 0
NoneFree d = (b : ℕ) → directory_blocks_of d.geometry ≤ b → b < blocks d.geometry → holds d.held b ≡ true

-- the volume passes inspection, and the state holds each block that an entry names: so it is after an accepted log-in, and
-- demand 3 says that it stays so
pub record Sound (d : Drive) (v : List ℕ) : Type 0 where
  pub inspected : lowest_bad d.geometry v ≡ slots d.geometry
  pub words : length d.held ≡ held_words
  pub holds_named : (b : ℕ) → named d.geometry v b ≡ true → holds d.held b ≡ true

-- record n of the file that a call means is present with the bytes r
pub record Present (d : Drive) (fcb v : List ℕ) (n : ℕ) (r : List ℕ) : Type 0 where
  pub is_present : present d.geometry v d.user (name_of fcb) n ≡ true
  pub has_bytes : read_bytes d.geometry v d.user (name_of fcb) n ≡ r

-- records written by function 21 one after another, each time with the control block and the state that the last left:
-- whether all succeed, and the volume at the end
abbrev pub all_written_by : Way → ℕ → List (List ℕ) → Drive → List ℕ → List ℕ → Bool
all_written_by way p [] d v fcb = true
all_written_by way p (r ∷ rs) d v fcb =
    let o = way (asked 21 p fcb r) d v in
    succeeded o.answer && all_written_by way p rs o.drive o.volume o.fcb

abbrev pub volume_by : Way → ℕ → List (List ℕ) → Drive → List ℕ → List ℕ → List ℕ
volume_by way p [] d v fcb = v
volume_by way p (r ∷ rs) d v fcb =
    let o = way (asked 21 p fcb r) d v in
    volume_by way p rs o.drive o.volume o.fcb

-- two replies with what is left beside them are the same
pub record Same (r s : Reply) (v w f h b c : List ℕ) : Type 0 where
  pub reply : r ≡ s
  pub volume : v ≡ w
  pub fcb : f ≡ h
  pub buffer : b ≡ c

-- ---- the statement, of a way to do calls
pub record Demand2Of (way : Geometry → Way) : Type 0 where
  -- "inputs admit only one outcome": whatever a call leaves, if it is what the definition says, it is this
  pub one_outcome : (g : Geometry) (c : Asked) (d : Drive) (v₀ : List ℕ) (r s : Reply) (v w fcb h b e : List ℕ)
      → left r v fcb b ≡ way g c d v₀ → left s w h e ≡ way g c d v₀ → Same r s v w fcb h b e
  -- "a write that meets no earlier refusal and needs a block is refused by 2 exactly when no block .. is free"
  pub refused_none_free : (g : Geometry) (c : Asked) (d : Drive) (v : List ℕ) (n : ℕ) (r : List ℕ) → Writes c.fcb c.buffer (call c) n r
      → is_none (first_met (earlier (tests g c d v))) ≡ true → needs_block d.geometry v d.user (name_of c.fcb) n ≡ true
      → number_of (way g c d v).answer ≡ 2 → NoneFree d
  pub none_free_refused : (g : Geometry) (c : Asked) (d : Drive) (v : List ℕ) (n : ℕ) (r : List ℕ) → Writes c.fcb c.buffer (call c) n r
      → is_none (first_met (earlier (tests g c d v))) ≡ true → needs_block d.geometry v d.user (name_of c.fcb) n ≡ true
      → NoneFree d → number_of (way g c d v).answer ≡ 2
  -- "after a successful write of record n, n is present with the bytes written"
  pub write_stores_lem : (g : Geometry) (c : Asked) (d : Drive) (v : List ℕ) (n : ℕ) (r : List ℕ) → Writes c.fcb c.buffer (call c) n r
      → succeeded (way g c d v).answer ≡ true → Present d c.fcb (way g c d v).volume n r
  -- "and every other record of that file that was present is present with the same bytes"
  pub write_keeps_others : (g : Geometry) (c : Asked) (d : Drive) (v : List ℕ) (n : ℕ) (r : List ℕ) → Writes c.fcb c.buffer (call c) n r
      → succeeded (way g c d v).answer ≡ true → Sound d v
      → (m : ℕ) → m ≢ n → (s : List ℕ) → Present d c.fcb v m s → Present d c.fcb (way g c d v).volume m s
  -- a read that succeeds shows the record's bytes; and one that is lent what it should be succeeds wherever the record is
  -- present
  pub read_shows : (g : Geometry) (c : Asked) (d : Drive) (v : List ℕ) (n : ℕ) (ts : List Test) → Reads d v c.fcb c.buffer (call c) n ts
      → succeeded (way g c d v).answer ≡ true → Present d c.fcb v n (way g c d v).buffer
  pub present_is_read : (g : Geometry) (c : Asked) (d : Drive) (v : List ℕ) (n : ℕ) (ts : List Test) → Reads d v c.fcb c.buffer (call c) n ts
      → is_none (first_met ts) ≡ true → Sound d v → (r : List ℕ) → Present d c.fcb v n r → succeeded (way g c d v).answer ≡ true
  -- "k sequential writes that all succeed leave k records with their own bytes"
  pub sequential_writes : (g : Geometry) (p : ℕ) (rs : List (List ℕ)) (d : Drive) (v fcb : List ℕ) → Sound d v → all_written_by (way g) p rs d v fcb ≡ true
      → (j : ℕ) → j < length rs → Present d fcb (volume_by (way g) p rs d v fcb) (position fcb + j) (get_or rs j [])
  -- "Log-in accepts exactly when all slots are good"
  pub accepts_good : (g : Geometry) (c : Asked) (d : Drive) (v : List ℕ) → call c ≡ LogIn → lawful g ≡ true → length v ≡ bytes g
      → ((i : ℕ) → i < slots g → good_slot g v i ≡ true) → succeeded (way g c d v).answer ≡ true
  pub accepted_is_good : (g : Geometry) (c : Asked) (d : Drive) (v : List ℕ) → call c ≡ LogIn → succeeded (way g c d v).answer ≡ true
      → (i : ℕ) → i < slots g → good_slot g v i ≡ true
  pub accepted_is_sound : (g : Geometry) (c : Asked) (d : Drive) (v : List ℕ) → call c ≡ LogIn → succeeded (way g c d v).answer ≡ true
      → Sound (way g c d v).drive (way g c d v).volume
  -- "log-in's count equals the number of free blocks": those from D to T-1, one by one, that no entry names
  pub log_in_count : (g : Geometry) (c : Asked) (d : Drive) (v : List ℕ) → call c ≡ LogIn → succeeded (way g c d v).answer ≡ true
      → value_of (way g c d v).answer ≡ count_from (λ b. not (named_below g v (slots g) b)) (directory_blocks_of g) (blocks g - directory_blocks_of g)
  -- "its held blocks are exactly those named by entries": of the blocks from D to T-1; no other is held
  pub log_in_holds : (g : Geometry) (c : Asked) (d : Drive) (v : List ℕ) → call c ≡ LogIn → succeeded (way g c d v).answer ≡ true
      → (b : ℕ) → directory_blocks_of g ≤ b → b < blocks g → holds (way g c d v).drive.held b ≡ named_below g v (slots g) b
  pub log_in_holds_no_other : (g : Geometry) (c : Asked) (d : Drive) (v : List ℕ) → call c ≡ LogIn → succeeded (way g c d v).answer ≡ true
      → (b : ℕ) → holds (way g c d v).drive.held b ≡ true → (directory_blocks_of g ≤ b) × (b < blocks g)

-- the demand
abbrev pub Demand2 : Type 0
Demand2 = Demand2Of step
