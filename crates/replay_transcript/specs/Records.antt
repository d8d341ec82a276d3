-- What a run has changed: "for each 128-byte record of the volume that differs from the one given, `RECORD q HEX`, rising
-- (a shorter last piece counts as one)".
use Rattle.std.specs.Prelude.{cond, List, [], ◌++◌, ℕ, zero, suc, ◌+◌, ◌-◌, ◌*◌, ◌/◌}
use Rattle.lists.specs.Bytes.{part}
use Rattle.disk_geometry.specs.Geometry.{record_bytes}
use Rattle.disk_volume.specs.Name.{same}
use Rattle.text.specs.Decimal.{decimal}
use Rattle.replay_transcript.specs.Hex.{hex}
use Rattle.text.specs.Letters.{letters}
use Rattle.text.specs.Letters.{blank, line_end}

-- record q; the last one may be shorter, and there is nothing behind it
abbrev pub record_of : List ℕ → ℕ → List ℕ
record_of v q = part v (record_bytes * q) record_bytes

-- how many records n bytes are: "a shorter last piece counts as one"
abbrev pub records_of : ℕ → ℕ
records_of n = (n + (record_bytes - 1)) / record_bytes

abbrev pub record_word : List ℕ
record_word = letters "RECORD "

-- "RECORD q HEX", s being the record's bytes
abbrev pub changed_line : ℕ → List ℕ → List ℕ
changed_line q s = record_word ++ decimal q ++ blank ++ hex s ++ line_end

-- the line of record q where it differs from the one given
unfoldable pub record_line : List ℕ → List ℕ → ℕ → List ℕ
record_line given v q =
    cond (same (record_of given q) (record_of v q)) [] (changed_line q (record_of v q))

-- the lines of k records from q on
unfoldable pub record_lines : List ℕ → List ℕ → ℕ → ℕ → List ℕ
record_lines given v q zero = []
record_lines given v q (suc k) = record_line given v q ++ record_lines given v (suc q) k
