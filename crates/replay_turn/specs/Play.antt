-- What a call of the script does: function 0 lays bytes, every other number goes through the door.
use Rattle.std.specs.Prelude.{cond, List, ℕ, eqb, drop}
use Rattle.lists.specs.Bytes.{put}
use Rattle.disk_geometry.specs.declared.Geometry.{Geometry}
use Rattle.call_answers.specs.declared.Answer.TheVariants.{Done}
use Rattle.filecalls.specs.declared.Drive.{Drive}
use Rattle.filecalls.specs.Outcome.{Outcome}
use Rattle.bdos.specs.Step.{step}
use Rattle.call_served.specs.Asked.{Asked}
use Rattle.text.specs.Text.{Text, text, puts}
use Rattle.replay_script.specs.declared.Next.{Next}
use Rattle.replay_script.specs.declared.Next.TheVariants.{End, Bad, Call}
use Rattle.numbers.specs.Numbers.{three}
use Rattle.replay_script.specs.Layout.{buffer_at, touch, offset_bytes}
use Rattle.replay_script.specs.Script.{next_of, call_at}
use Rattle.replay_transcript.specs.Lines.{call_line}

-- "Function 0 is `something else touches the volume`: its F bytes are a 24-bit offset and the bytes to lay there";
-- "function 0 ignores bytes beyond the volume". Fewer than three bytes lay nothing.
unfoldable pub laid : List ℕ → List ℕ → List ℕ
laid v fcb = (puts (text v (three fcb 0)) (drop offset_bytes fcb)).bytes

unfoldable pub played : Geometry → Asked → Drive → List ℕ → Outcome
played g c d v =
    cond (eqb c.function touch)
    (record { answer = Done 0; drive = d; volume = laid v c.fcb; fcb = c.fcb; buffer = c.buffer })
    (step g c d v)

-- the call's line
abbrev pub line_of : ℕ → Outcome → List ℕ
line_of n o = call_line n o.answer o.fcb o.buffer

-- all that a call leaves, with its line appended to the transcript
pub record Called : Type 0 where
  pub drive : Drive
  pub volume : List ℕ
  pub fcb : List ℕ
  pub buffer : List ℕ
  pub text : Text

abbrev pub leaves : Drive → List ℕ → List ℕ → List ℕ → Text → Called
leaves d v fcb b t = record { drive = d; volume = v; fcb = fcb; buffer = b; text = t }

abbrev pub shown_as : ℕ → Text → Outcome → Called
shown_as n t o = leaves o.drive o.volume o.fcb o.buffer (puts t (line_of n o))

unfoldable pub called : Geometry → Asked → Drive → List ℕ → Text → Called
called g c d v t = shown_as c.function t (played g c d v)

-- all that a turn leaves: the state, the volume, the script's own bytes, where a call is lent its buffer, the transcript
pub record After : Type 0 where
  pub drive : Drive
  pub volume : List ℕ
  pub script : List ℕ
  pub text : Text

abbrev pub afterwards : Drive → List ℕ → List ℕ → Text → After
afterwards d v s t = record { drive = d; volume = v; script = s; text = t }

-- the script's end and a bad call leave all as it is
abbrev pub after_by : Next → List ℕ → Drive → List ℕ → Text → Called → After
after_by End s d v t o = afterwards d v s t
after_by Bad s d v t o = afterwards d v s t
after_by (Call h) s d v t o = afterwards o.drive o.volume (put s (buffer_at h.fcb) h.buffer o.buffer) o.text

unfoldable pub after : Geometry → List ℕ → Drive → List ℕ → Text → After
after g s d v t = after_by (next_of s) s d v t (called g (call_at s) d v t)
