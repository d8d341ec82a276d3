-- Demand 3. For any geometry within the rules, any volume of its length that passes inspection, and any list of calls of
-- all kinds that begins with log-in, refused ones and numbers that are not served among them, with any lent lengths:
-- answers, control blocks, buffers and volume equal those of the plain way, which works out the held blocks from the
-- directory before every call; the volume passes inspection at the end; each file, that is user and name, that no
-- successful call named or matched has the same records present with the same bytes. A call of several records is successful
-- where one was done: "records done before a stop stay done and demand 3 counts the call as successful".
--
-- Of what is lent only this is asked: the bytes of control blocks are below 256. The list may be any, so each of its
-- beginnings has all this too: the volume passes inspection after every call. Calls that only read name a file and are not
-- counted as touching it, which makes the last sentence say more than was asked. The states at the start may be any, the
-- plain way's another than the kept way's: log-in looks at neither.
use Rattle.std.specs.Prelude.{◌≡◌, Bool, true, false, ◌&&◌, ◌||◌, ◌≢◌, List, [], ◌∷◌, ℕ, ◌≤◌, ◌<◌, eqb, length}
use Rattle.disk_geometry.specs.declared.Geometry.{Geometry}
use Rattle.disk_geometry.specs.Geometry.{lawful, bytes, slots, places, blocks, directory_blocks_of}
use Rattle.disk_volume.specs.Name.{name_of, same, like}
use Rattle.disk_volume.specs.Entry.{is_empty, block_in}
use Rattle.disk_volume.specs.Directory.{slot_at}
use Rattle.disk_volume.specs.Record.{present}
use Rattle.call_fcb.specs.Fcb.{new_name}
use Rattle.call_answers.specs.declared.Answer.TheVariants.{Ready}
use Rattle.call_answers.specs.Answer.{succeeded}
use Rattle.disk_held.specs.Held.{free_count}
use Rattle.disk_rules.specs.GoodSlot.{lowest_bad}
use Rattle.disk_rules.specs.Named.{held_of}
use Rattle.call_read.specs.Read.{read_bytes}
use Rattle.filecalls.specs.declared.Drive.{Drive}
use Rattle.call_served.specs.declared.Call.{Call}
use Rattle.call_served.specs.declared.Call.TheVariants.{LogIn, Open, Close, SearchFirst, SearchNext, Delete, Make, Rename, Protect, Attributes, User, Size, SetRandom, Moves, Unserved}
use Rattle.call_served.specs.declared.Transfer.TheVariants.{ReadSequential, WriteSequential, ReadRandom, WriteRandom, WriteZeroFill, ReadSeveral, WriteSeveral}
use Rattle.bdos.specs.Step.{step}
use Rattle.call_served.specs.Asked.{Asked}
use Rattle.call_served.specs.Calls.{call_of}
use Rattle.numbers.specs.Numbers.{Bytes}
use Rattle.demands.specs.Run.{Seen, Way, answers, final, plain}

-- the control blocks that are lent are bytes
abbrev pub BytesLent : List Asked → Type 0
BytesLent [] = Unit {0}
BytesLent (c ∷ cs) = Bytes c.fcb × BytesLent cs

-- a call of the user w with this control block, which changes what it names: does it name or match the file (u, name)?
abbrev pub names_file : Call → ℕ → List ℕ → ℕ → List ℕ → Bool
names_file Delete w fcb u name = eqb u w && like name (name_of fcb)
names_file Make w fcb u name = eqb u w && same name (name_of fcb)
names_file (Moves WriteSequential) w fcb u name = eqb u w && same name (name_of fcb)
names_file (Moves WriteRandom) w fcb u name = eqb u w && same name (name_of fcb)
names_file (Moves WriteZeroFill) w fcb u name = eqb u w && same name (name_of fcb)
names_file Attributes w fcb u name = eqb u w && same name (name_of fcb)
names_file Rename w fcb u name = eqb u w && (same name (name_of fcb) || same name (new_name fcb))
names_file (Moves WriteSeveral) w fcb u name = eqb u w && same name (name_of fcb)
names_file LogIn w fcb u name = false
names_file Open w fcb u name = false
names_file Close w fcb u name = false
names_file SearchFirst w fcb u name = false
names_file SearchNext w fcb u name = false
names_file (Moves ReadSequential) w fcb u name = false
names_file (Moves ReadRandom) w fcb u name = false
names_file (Moves ReadSeveral) w fcb u name = false
names_file Size w fcb u name = false
names_file Protect w fcb u name = false
names_file User w fcb u name = false
names_file SetRandom w fcb u name = false
names_file Unserved w fcb u name = false

-- in the state d
unfoldable pub touches : Asked → Drive → ℕ → List ℕ → Bool
touches c d u name = names_file (call_of c.function) d.user c.fcb u name

-- a successful call of the run touches the file
unfoldable pub touched : Way → List Asked → Drive → List ℕ → ℕ → List ℕ → Bool
touched way [] d v u name = false
touched way (c ∷ cs) d v u name =
    (succeeded (way c d v).answer && touches c d u name) || touched way cs (way c d v).drive (way c d v).volume u name

-- what a run of these calls on the volume v leaves: ss is what is seen of them, w the volume at its end, and `hit` says which
-- files a successful one touched; the plain way of doing the calls runs from the state e
pub record Kept (way : Way) (g : Geometry) (v : List ℕ) (cs : List Asked) (e : Drive) (ss : List Seen) (w : List ℕ) (hit : ℕ → List ℕ → Bool) : Type 0 where
  pub answers_same : ss ≡ answers (plain way) cs e v
  pub volume_same : w ≡ final (plain way) cs e v
  pub length_kept : length w ≡ length v
  pub inspected : lowest_bad g w ≡ slots g
  pub others_present : (u : ℕ) (name : List ℕ) → u ≤ 15 → hit u name ≡ false
      → (n : ℕ) → present g w u name n ≡ present g v u name n
  pub others_bytes : (u : ℕ) (name : List ℕ) → u ≤ 15 → hit u name ≡ false
      → (n : ℕ) → present g v u name n ≡ true → read_bytes g w u name n ≡ read_bytes g v u name n

-- "For any geometry within the rules, any volume of its length that passes inspection, and any list of calls .. that begins
-- with log-in"
abbrev pub OverRuns : (Geometry → List ℕ → List Asked → Type 0) → Type 0
OverRuns Says =
    (g : Geometry) → lawful g ≡ true → (v : List ℕ) → length v ≡ bytes g → lowest_bad g v ≡ slots g
    → (login : Asked) → call_of login.function ≡ LogIn → (cs : List Asked) → BytesLent cs
    → Says g v (login ∷ cs)

-- the demand, of a way to do calls
abbrev pub Demand3Of : (Geometry → Way) → Type 0
Demand3Of way = OverRuns (λ g v cs. (d e : Drive) → Kept (way g) g v cs e (answers (way g) cs d v) (final (way g) cs d v) (touched (way g) cs d v))

abbrev pub Demand3 : Type 0
Demand3 = Demand3Of step

-- And so a further log-in accepts, by function 13 or 37 and from any state
abbrev pub Accepts : Geometry → List ℕ → Type 0
Accepts g w =
    (again : Asked) → call_of again.function ≡ LogIn → (e : Drive)
    → (step g again e w).answer ≡ Ready (free_count (held_of g w) (directory_blocks_of g) (blocks g))

abbrev pub AcceptsAgain : Type 0
AcceptsAgain = OverRuns (λ g v cs. (d : Drive) → Accepts g (final (step g) cs d v))

-- And so no block belongs to two entries at any moment: it stands in one place of one entry
pub record OneOwner (g : Geometry) (v : List ℕ) : Type 0 where
  pub one_place : (i j p q : ℕ) → i < slots g → j < slots g → is_empty (slot_at g v i) ≡ false → is_empty (slot_at g v j) ≡ false
      → p < places g → q < places g → block_in g (slot_at g v i) p ≢ 0 → block_in g (slot_at g v i) p ≡ block_in g (slot_at g v j) q → (i ≡ j) × (p ≡ q)

abbrev pub NoBlockTwice : Type 0
NoBlockTwice = OverRuns (λ g v cs. (d : Drive) → OneOwner g (final (step g) cs d v))
