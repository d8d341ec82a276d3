-- A record of a file as the file calls show it. The control block f is copied and its r bytes are set to the record's number:
-- "r bytes, ex, s2 and cr of the control block are not looked at". What stands above the file calls reads a file by this alone.
use Rattle.std.specs.Prelude.{List, ℕ, replicate}
use Rattle.disk_geometry.specs.Geometry.{record_bytes}
use Rattle.call_fcb.specs.Fcb.{with_random}
use Rattle.call_answers.specs.declared.Refusal.{Refusal}
use Rattle.call_answers.specs.Answer.{why_of}
use Rattle.filecalls.specs.declared.Drive.{Drive}
use Rattle.filecalls.specs.Outcome.{Outcome}
use Rattle.filecalls.specs.Leaves.{read_random_leaves}

-- the random read of record n into a buffer of zeros, and all that it leaves
unfoldable pub shown : Drive → List ℕ → List ℕ → ℕ → Outcome
shown d v f n = read_random_leaves d v (with_random f n) (replicate record_bytes 0)

-- why record n can't be read, and its bytes
abbrev pub unread : Drive → List ℕ → List ℕ → ℕ → Refusal
unread d v f n = why_of (shown d v f n).answer

abbrev pub record_shown : Drive → List ℕ → List ℕ → ℕ → List ℕ
record_shown d v f n = (shown d v f n).buffer
