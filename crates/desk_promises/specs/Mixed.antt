-- Demand 3's last sentence of runs that mix file calls and replacements: "A run that mixes file calls and replacements keeps
-- demand 3's last sentence with the desk's file counted as named." A run begins with log-in; each call and each replacement is
-- given the state and the volume that the last left. The volume passes inspection at the end, and each file, that is user and
-- name, that no successful call and no replacement that was not refused named or matched has the same records present with the
-- same bytes (`MixedRuns`).
--
-- It is asked that what is lent is bytes, and that a new siglum has 16 bits: what code lends is so.
use Rattle.std.specs.Prelude.{◌≡◌, Bool, true, false, ◌&&◌, ◌||◌, List, [], ◌∷◌, ℕ, ◌≤◌, ◌<◌, eqb, length}
use Rattle.numbers.specs.Numbers.{Bytes}
use Rattle.disk_geometry.specs.declared.Geometry.{Geometry}
use Rattle.disk_geometry.specs.Geometry.{lawful, bytes, slots}
use Rattle.disk_volume.specs.Name.{name_of, same}
use Rattle.disk_volume.specs.Record.{present}
use Rattle.disk_rules.specs.GoodSlot.{lowest_bad}
use Rattle.call_answers.specs.Answer.{succeeded}
use Rattle.call_read.specs.Read.{read_bytes}
use Rattle.call_served.specs.declared.Call.TheVariants.{LogIn}
use Rattle.call_served.specs.Asked.{Asked}
use Rattle.call_served.specs.Calls.{call_of}
use Rattle.filecalls.specs.declared.Drive.{Drive}
use Rattle.bdos.specs.Step.{step}
use Rattle.std.specs.Prelude.{Result, Ok, Err}
use Rattle.desk.specs.declared.Why.{Why}
use Rattle.desk.specs.Replace.{replacement}
use Rattle.demands.specs.Demand3.{touches}
use Rattle.desk_promises.specs.Columns.{ByColumn}

-- a call at the door, or a replacement: control block, chapter, old and new siglum
pub data Deed : Type 0 where
  calls : Asked → Deed
  replaces : List ℕ → ℕ → ℕ → ℕ → Deed

-- the state and the volume after it
abbrev pub drive_after : Geometry → Deed → Drive → List ℕ → Drive
drive_after g (calls c) d v = (step g c d v).drive
drive_after g (replaces fcb chapter old new) d v = (replacement d v fcb chapter old new).drive

abbrev pub volume_after : Geometry → Deed → Drive → List ℕ → List ℕ
volume_after g (calls c) d v = (step g c d v).volume
volume_after g (replaces fcb chapter old new) d v = (replacement d v fcb chapter old new).volume

-- it was not refused
abbrev pub is_done : Result ℕ Why → Bool
is_done (Ok n) = true
is_done (Err why) = false

abbrev pub was_done : Geometry → Deed → Drive → List ℕ → Bool
was_done g (calls c) d v = succeeded (step g c d v).answer
was_done g (replaces fcb chapter old new) d v = is_done (replacement d v fcb chapter old new).answer

-- does it name or match the file (u, name), in the state d?
abbrev pub names : Deed → Drive → ℕ → List ℕ → Bool
names (calls c) d u name = touches c d u name
names (replaces fcb chapter old new) d u name = eqb u d.user && same name (name_of fcb)

-- the volume and the state at the end of a run, and the files that were named
unfoldable pub ending : Geometry → List Deed → Drive → List ℕ → List ℕ
ending g [] d v = v
ending g (x ∷ xs) d v = ending g xs (drive_after g x d v) (volume_after g x d v)

unfoldable pub ending_state : Geometry → List Deed → Drive → List ℕ → Drive
ending_state g [] d v = d
ending_state g (x ∷ xs) d v = ending_state g xs (drive_after g x d v) (volume_after g x d v)

unfoldable pub named_in : Geometry → List Deed → Drive → List ℕ → ℕ → List ℕ → Bool
named_in g [] d v u name = false
named_in g (x ∷ xs) d v u name =
    (was_done g x d v && names x d u name) || named_in g xs (drive_after g x d v) (volume_after g x d v) u name

-- what is lent is bytes
abbrev pub LentTo : Deed → List ℕ → Type 0
LentTo (calls c) v = Bytes c.fcb
LentTo (replaces fcb chapter old new) v = Bytes v × (new < 65536)

unfoldable pub AllLent : Geometry → List Deed → Drive → List ℕ → Type 0
AllLent g [] d v = Unit {0}
AllLent g (x ∷ xs) d v = LentTo x v × AllLent g xs (drive_after g x d v) (volume_after g x d v)

-- the volume was v and is w; `hit` says which files were named
pub record MixedKept (g : Geometry) (v w : List ℕ) (hit : ℕ → List ℕ → Bool) : Type 0 where
  pub length_kept : length w ≡ length v
  pub inspected : lowest_bad g w ≡ slots g
  pub others_present : (u : ℕ) (name : List ℕ) → u ≤ 15 → hit u name ≡ false
      → (n : ℕ) → present g w u name n ≡ present g v u name n
  pub others_bytes : (u : ℕ) (name : List ℕ) → u ≤ 15 → hit u name ≡ false
      → (n : ℕ) → present g v u name n ≡ true → read_bytes g w u name n ≡ read_bytes g v u name n

-- any geometry within the rules, any volume of its length that passes inspection, log-in, and then any calls and replacements
abbrev pub OverMixed : (Geometry → List ℕ → List Deed → Drive → Type 0) → Type 0
OverMixed Says =
    (g : Geometry) → lawful g ≡ true → (v : List ℕ) → length v ≡ bytes g → lowest_bad g v ≡ slots g
    → (login : Asked) → call_of login.function ≡ LogIn → (xs : List Deed) (d : Drive) → AllLent g (calls login ∷ xs) d v
    → Says g v (calls login ∷ xs) d

abbrev pub MixedRuns : Type 0
MixedRuns = OverMixed (λ g v xs d. MixedKept g v (ending g xs d v) (named_in g xs d v))

-- and the next replacement does what is said of one after calls alone (`Columns`)
abbrev pub ColumnsInMixed : Type 0
ColumnsInMixed =
    OverMixed (λ g v xs d. Bytes (ending g xs d v) → (fcb : List ℕ) (chapter old new : ℕ) → old < 65536 → new < 65536
    → ByColumn (ending_state g xs d v) (ending g xs d v) fcb chapter old new)
