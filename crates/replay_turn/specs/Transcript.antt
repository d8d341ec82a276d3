-- The whole transcript of a script: the header, the calls one after the other, then what they have changed.
use Rattle.std.specs.Prelude.{Option, Some, None, cond, List, [], ◌++◌, ℕ, zero, suc, ◌+◌, leb, length, drop}
use Rattle.lists.specs.Bytes.{part}
use Rattle.disk_geometry.specs.declared.Geometry.{Geometry}
use Rattle.filecalls.specs.declared.Drive.{Drive}
use Rattle.filecalls.specs.State.{closed}
use Rattle.replay_script.specs.declared.Header.{Header}
use Rattle.replay_script.specs.declared.Next.{Next}
use Rattle.replay_script.specs.Layout.{header_bytes}
use Rattle.replay_script.specs.Script.{header_of, call_length, next_of, call_at}
use Rattle.replay_transcript.specs.Lines.{bad_line, end_line}
use Rattle.replay_transcript.specs.Records.{records_of, record_lines}
use Rattle.replay_turn.specs.Play.{played, line_of}
use Rattle.replay_script.specs.declared.Next.TheVariants as next

-- what a run of calls shows and leaves: its lines, the volume, how many calls were done
pub record Run : Type 0 where
  pub lines : List ℕ
  pub volume : List ℕ
  pub calls : ℕ

-- by what stands next: the end, "`BAD SCRIPT n` after n calls", or a call with its line and the rest of the run
abbrev pub run_by : Next → ℕ → List ℕ → List ℕ → Run → Run
run_by next.End n v line rest = record { lines = []; volume = v; calls = n }
run_by next.Bad n v line rest = record { lines = bad_line n; volume = v; calls = n }
run_by (next.Call h) n v line rest = record { lines = line ++ rest.lines; volume = rest.volume; calls = rest.calls }

-- the calls of s, at most k of them, n calls having been done
unfoldable pub run_from : Geometry → ℕ → ℕ → List ℕ → Drive → List ℕ → Run
run_from g zero n s d v = record { lines = []; volume = v; calls = n }
run_from g (suc k) n s d v =
    let c = call_at s in
    let o = played g c d v in
    let rest = run_from g k (suc n) (drop (call_length s) s) o.drive o.volume in
    run_by (next_of s) n v (line_of c.function o) rest

-- "Then for each 128-byte record .. Last, `END n` with the number of calls."
unfoldable pub ended : List ℕ → Run → List ℕ
ended given r = r.lines ++ record_lines given r.volume 0 (records_of (length r.volume)) ++ end_line r.calls

-- a header or a volume that is cut off, or too long: no volume was given
abbrev pub no_volume : List ℕ
no_volume = bad_line 0 ++ end_line 0

abbrev pub transcript_by : Option Header → List ℕ → List ℕ
transcript_by None s = no_volume
transcript_by (Some h) s =
    let l = h.volume_bytes in
    let given = part s header_bytes l in
    let calls = drop (header_bytes + l) s in
    cond (leb (header_bytes + l) (length s)) (ended given (run_from h.geometry (length calls) 0 calls closed given)) no_volume

unfoldable pub transcript : List ℕ → List ℕ
transcript s = transcript_by (header_of s) s
