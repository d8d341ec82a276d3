-- Request (i), eight-inch floppies. "Every call answers on such an image as on the unskewed volume. The reserved tracks and the
-- last six logical records never change."
--
-- Of any geometry within the rules, the eight-inch one among them, any image of its length and any state of it:
--   each call, log-ins, calls of several records and refused ones among them, with any control block and buffer, leaves on the unskewed
--   volume, from the straight state, what it leaves on the image, unskewed (`EachCall`). So answer and value, control block and buffer
--   are the same, the state is the same but for its placing, and the unskewed image afterwards is that volume afterwards;
--   runs of calls do so too (`EachRun`);
--   wherever a call is cut, as in request (xii), its stores are the same, and what is left of the image, unskewed, is what is left
--   of the volume (`EachCut`).
-- Over any run on an eight-inch image, and wherever a further call is cut, the reserved tracks and the last six logical records keep
-- every byte (`SpareKept`). These and the unskewed volume are all that an image is (`AllOfImage`).
--
-- A state of an image has the image's geometry, or it counts as closed. The demands and request (xii) speak of every geometry within
-- the rules and find records by `start`, so they hold of these images as they stand: the eight-inch geometry is within the rules, with
-- its own numbers alone (`Served`).
use Rattle.std.specs.Prelude.{◌≡◌, true, false, cond, ◌≢◌, List, ℕ, ◌*◌, ◌≤◌, ◌<◌, length}
use Rattle.lists.specs.Bytes.{part}
use Rattle.disk_geometry.specs.declared.Geometry.{Geometry}
use Rattle.disk_geometry.specs.EightInch.{track_records, reserved_bytes}
use Rattle.disk_geometry.specs.Geometry.{record_bytes, straight, placing, floppy, lawful, bytes, blocks, records, start}
use Rattle.disk_stores.specs.Stores.{cut}
use Rattle.call_served.specs.Asked.{Asked}
use Rattle.unskewed.specs.Unskewed.{straightened, unskewed}
use Rattle.filecalls.specs.declared.Drive.{Drive}
use Rattle.filecalls.specs.State.{is_open}
use Rattle.filecalls.specs.Outcome.{Outcome}
use Rattle.bdos.specs.Step.{step}
use Rattle.bdos.specs.Stores.{stores_of}
use Rattle.demands.specs.Run.{Way, answers, final, final_state}
use Rattle.demands.specs.Cuts.{Storing}

-- ---- what the statements are written with
-- the state with its records one behind the other; a geometry outside the rules stays as it is, and counts as closed
abbrev pub with_geometry : Drive → Geometry → Drive
with_geometry d g = record { geometry = g; user = d.user; protected = d.protected; search = d.search; held = d.held }

abbrev pub straight_drive : Drive → Drive
straight_drive d = with_geometry d (cond (lawful d.geometry) (straightened d.geometry) d.geometry)

-- all that a call leaves, unskewed
abbrev pub unskewed_outcome : Geometry → Outcome → Outcome
unskewed_outcome g o =
    record { answer = o.answer; drive = straight_drive o.drive; volume = unskewed g o.volume; fcb = o.fcb; buffer = o.buffer }

-- a state of a volume of this geometry
pub data StateOf (g : Geometry) (d : Drive) : Type 0 where
  has_geometry : d.geometry ≡ g → StateOf g d
  shut : is_open d ≡ false → StateOf g d

-- any geometry within the rules, any state and any image of it
abbrev pub OverImages : (Geometry → Drive → List ℕ → Type 0) → Type 0
OverImages Says = (g : Geometry) → lawful g ≡ true → (d : Drive) → StateOf g d → (v : List ℕ) → length v ≡ bytes g → Says g d v

-- ---- "Every call answers on such an image as on the unskewed volume.": of a way to do calls
abbrev pub EachCallOf : (Geometry → Way) → Type 0
EachCallOf way =
    OverImages (λ g d v. (c : Asked) → way (straightened g) c (straight_drive d) (unskewed g v) ≡ unskewed_outcome g (way g c d v))

abbrev pub EachCall : Type 0
EachCall = EachCallOf step

-- a run of calls: what is seen of each, and volume and state at its end
pub record RunAsUnskewed (way : Geometry → Way) (g : Geometry) (cs : List Asked) (d : Drive) (v : List ℕ) : Type 0 where
  pub seen_same : answers (way (straightened g)) cs (straight_drive d) (unskewed g v) ≡ answers (way g) cs d v
  pub volume_same : final (way (straightened g)) cs (straight_drive d) (unskewed g v) ≡ unskewed g (final (way g) cs d v)
  pub state_same : final_state (way (straightened g)) cs (straight_drive d) (unskewed g v) ≡ straight_drive (final_state (way g) cs d v)

-- of a way to do calls; a call by itself does not show which placing its state is left with
abbrev pub EachRunOf : (Geometry → Way) → Type 0
EachRunOf way = OverImages (λ g d v. (cs : List Asked) → RunAsUnskewed way g cs d v)

abbrev pub EachRun : Type 0
EachRun = EachRunOf step

-- a call that is cut after k stores: of a way to store
pub record CutAsUnskewed (stores : Storing) (g : Geometry) (c : Asked) (d : Drive) (v : List ℕ) : Type 0 where
  pub stores_same : stores c (straight_drive d) (unskewed g v) ≡ stores c d v
  pub volume_same : (k : ℕ) → cut (straightened g) (unskewed g v) k (stores c (straight_drive d) (unskewed g v)) ≡ unskewed g (cut g v k (stores c d v))

abbrev pub EachCutOf : Storing → Type 0
EachCutOf stores = OverImages (λ g d v. (c : Asked) → CutAsUnskewed stores g c d v)

abbrev pub EachCut : Type 0
EachCut = EachCutOf stores_of

-- ---- "The reserved tracks and the last six logical records never change.": the image was v and is w
pub record SpareSame (v w : List ℕ) : Type 0 where
  pub length_kept : length w ≡ length v
  pub reserved : part w 0 reserved_bytes ≡ part v 0 reserved_bytes
  pub last_six : (q : ℕ) → blocks floppy * records floppy ≤ q → q < track_records
      → part w (start floppy q) record_bytes ≡ part v (start floppy q) record_bytes

-- over a run, done in a way and with a way to store
pub record SpareKeptBy (way : Way) (stores : Storing) (cs : List Asked) (d : Drive) (v : List ℕ) : Type 0 where
  pub at_end : SpareSame v (final way cs d v)
  pub where_cut : (c : Asked) (k : ℕ) → SpareSame v (cut floppy (final way cs d v) k (stores c (final_state way cs d v) (final way cs d v)))

abbrev pub SpareKeptOf : (Geometry → Way) → Storing → Type 0
SpareKeptOf way stores =
    (d : Drive) → StateOf floppy d → (v : List ℕ) → length v ≡ bytes floppy → (cs : List Asked) → SpareKeptBy (way floppy) stores cs d v

abbrev pub SpareKept : Type 0
SpareKept = SpareKeptOf step stores_of

-- nothing else is on the image
abbrev pub AllOfImage : Type 0
AllOfImage = (v w : List ℕ) → length v ≡ bytes floppy → SpareSame v w → unskewed floppy v ≡ unskewed floppy w → v ≡ w

-- ---- the geometries that are served: this one with its own numbers, and the straight ones, whose volumes are their own unskewed ones
pub record Served : Type 0 where
  pub within_rules_lem : lawful floppy ≡ true
  pub length_is : bytes floppy ≡ 256256
  pub no_other : (g : Geometry) → lawful g ≡ true → placing g ≢ straight → g ≡ floppy
  pub straight_itself : (g : Geometry) → lawful g ≡ true → placing g ≡ straight → (v : List ℕ) → length v ≡ bytes g → unskewed g v ≡ v
