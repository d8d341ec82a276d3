-- The drive's bytes carry the state from call to call: every state that a log-in or a call leaves is one that they can
-- carry, so the next call is given the very state that the last returned. Proved in `proofs/FaithfulHolds`.
use Rattle.std.specs.Prelude.{◌≡◌, true, false, List, ℕ, ◌<◌, length, replicate}
use Rattle.disk_geometry.specs.declared.Geometry.{Geometry}
use Rattle.disk_geometry.specs.Geometry.{blocks}
use Rattle.call_answers.specs.Answer.{succeeded}
use Rattle.filecalls.specs.declared.Drive.{Drive}
use Rattle.filecalls.specs.State.{is_open}
use Rattle.filecalls.specs.LogIn.{log_in}
use Rattle.call_served.specs.declared.Call.TheVariants.{LogIn}
use Rattle.bdos.specs.Step.{step}
use Rattle.call_served.specs.Asked.{Asked, asked}
use Rattle.call_served.specs.Calls.{call_of}
use Rattle.drive_bytes.specs.Layout.{drive_bytes, decoded}
use Rattle.drive_bytes.specs.RoundTrip.{Carried}
use Rattle.numbers.specs.Numbers.{Bytes}
use Rattle.seam_words.specs.Answered.{answered}
use Rattle.seam_calls.specs.Seam.{sealed, at_seam, log_in_at_seam}

-- log-in leaves a state that is carried, and an accepted one leaves it open
abbrev pub LogInCarried : Type 0
LogInCarried = (g : Geometry) (v : List ℕ) → Carried (log_in g v).drive

abbrev pub LogInOpens : Type 0
LogInOpens =
    (g : Geometry) (v : List ℕ) → succeeded (log_in g v).answer ≡ true → is_open (log_in g v).drive ≡ true

-- a call on an open state that is carried leaves one that is carried, open again unless the call logs in
abbrev pub CallCarried : Type 0
CallCarried =
    (d : Drive) → Carried d → is_open d ≡ true → (c : Asked) → c.parameter < 256 → (v : List ℕ)
    → Carried (step d.geometry c d v).drive

abbrev pub CallStaysOpen : Type 0
CallStaysOpen =
    (d : Drive) → Carried d → is_open d ≡ true → (c : Asked) → c.parameter < 256 → (v : List ℕ)
    → (call_of c.function ≡ LogIn → ⊥) → is_open (step d.geometry c d v).drive ≡ true

-- and while it is open its geometry is that of the log-in
abbrev pub LogInGeometry : Type 0
LogInGeometry = (g : Geometry) (v : List ℕ) → is_open (log_in g v).drive ≡ true → (log_in g v).drive.geometry ≡ g

abbrev pub CallGeometry : Type 0
CallGeometry =
    (d : Drive) (c : Asked) (v : List ℕ) → is_open (step d.geometry c d v).drive ≡ true → (step d.geometry c d v).drive.geometry ≡ d.geometry

-- so the drive's bytes are read back as the state that was returned
abbrev pub LogInFaithful : Type 0
LogInFaithful =
    (g : Geometry) (v s : List ℕ) → length s ≡ drive_bytes (blocks g) → decoded (log_in_at_seam g v s).drive ≡ (log_in g v).drive

abbrev pub CallFaithful : Type 0
CallFaithful =
    (n p : ℕ) (s v fcb b : List ℕ) → p < 256 → Bytes s → is_open (decoded s) ≡ true
    → decoded (at_seam n p s v fcb b).drive ≡ (step (decoded s).geometry (asked n p fcb b) (decoded s) v).drive

-- "A refusal .. alters no lent byte", at the seam: the drive's bytes too
abbrev pub RefusedLeavesAll : Type 0
RefusedLeavesAll =
    (n p : ℕ) (s v fcb b : List ℕ) → Bytes s → is_open (decoded s) ≡ true → (call_of n ≡ LogIn → ⊥)
    → succeeded (step (decoded s).geometry (asked n p fcb b) (decoded s) v).answer ≡ false
    → at_seam n p s v fcb b
    ≡ sealed (answered (step (decoded s).geometry (asked n p fcb b) (decoded s) v).answer) s v fcb b

-- a refused log-in leaves zeros, "closed is all zeros, of either length", and so does function 13 or 37 that is refused
abbrev pub RefusedLogInCloses : Type 0
RefusedLogInCloses =
    (g : Geometry) (v s : List ℕ) → length s ≡ drive_bytes (blocks g) → succeeded (log_in g v).answer ≡ false
    → (log_in_at_seam g v s).drive ≡ replicate (length s) 0

abbrev pub RefusedResetCloses : Type 0
RefusedResetCloses =
    (n p : ℕ) (s v fcb b : List ℕ) → is_open (decoded s) ≡ true → call_of n ≡ LogIn
    → succeeded (step (decoded s).geometry (asked n p fcb b) (decoded s) v).answer ≡ false
    → (at_seam n p s v fcb b).drive ≡ replicate (length s) 0
