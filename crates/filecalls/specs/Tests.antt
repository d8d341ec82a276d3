-- The tests that look at the state and at what is lent, each with its refusal.
use Rattle.std.specs.Prelude.{Bool, not, List, ℕ, ltb, eqb, length}
use Rattle.lists.specs.Bytes.{byte}
use Rattle.disk_geometry.specs.Geometry.{bytes, record_bytes}
use Rattle.disk_volume.specs.Name.{name_at, good_name}
use Rattle.call_fcb.specs.Fcb.{DR, fcb_bytes}
use Rattle.call_typing.specs.Typing.{typeable}
use Rattle.call_answers.specs.declared.Refusal.TheVariants.{Closed, VolumeLength, FcbLength, BufferLength, DriveCode, Name, Untypeable, Position, Beyond, Protected}
use Rattle.call_answers.specs.Refusal.{Test, test}
use Rattle.filecalls.specs.declared.Drive.{Drive}
use Rattle.filecalls.specs.State.{is_open}

-- 32: "geometry outside the rules, or (not log-in) closed state"
abbrev pub closed_state : Drive → Test
closed_state d = test Closed (not (is_open d))

-- 33, 34, 35: "length of volume; control block not 36; transfer buffer not 128"
abbrev pub volume_length : Drive → List ℕ → Test
volume_length d v = test VolumeLength (not (eqb (length v) (bytes d.geometry)))

abbrev pub fcb_length : List ℕ → Test
fcb_length fcb = test FcbLength (not (eqb (length fcb) fcb_bytes))

abbrev pub buffer_length : List ℕ → Test
buffer_length b = test BufferLength (not (eqb (length b) record_bytes))

-- 42: "dr not 0 or 1"
abbrev pub drive_code : List ℕ → Test
drive_code fcb = test DriveCode (ltb 1 (byte fcb DR))

-- 39: "a name outside the inspection's byte rule; 3FH allowed in open, search, delete only": the name from byte a on
abbrev pub bad_name : Bool → List ℕ → ℕ → Test
bad_name pattern fcb a = test Name (not (good_name pattern (name_at fcb a)))

-- 45: a name that can't be typed, from byte a on
abbrev pub untypeable : List ℕ → ℕ → Test
untypeable fcb a = test Untypeable (not (typeable (name_at fcb a)))

-- 40: "ex, s2 or cr too large where used"
abbrev pub too_large : Bool → Test
too_large fits = test Position (not fits)

-- 6
abbrev pub beyond : Bool → Test
beyond met = test Beyond met

-- 37
abbrev pub protected_drive : Drive → Test
protected_drive d = test Protected d.protected
