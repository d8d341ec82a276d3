-- A record read and written again with its first two bytes changed: the bytes that are written. A reading record "has its siglum
-- in bytes 0 and 1", and the desk changes these alone (request (x)).
use Rattle.std.specs.Prelude.{List, ℕ, length, set, replicate}
use Rattle.disk_geometry.specs.declared.Geometry.{Geometry}
use Rattle.disk_geometry.specs.Geometry.{record_bytes}
use Rattle.call_answers.specs.declared.Refusal.TheVariants.{NoGroup}
use Rattle.call_answers.specs.Refusal.{first_met, unless_refused}
use Rattle.call_read.specs.Read.{read_tests, read_bytes}
use Rattle.call_write.specs.declared.Source.{Source}
use Rattle.call_write.specs.declared.Source.TheVariants.{Buffer, Standing}

-- a record's bytes with others in bytes 0 and 1
abbrev pub with_first_two : ℕ → ℕ → List ℕ → List ℕ
with_first_two low high r = set (set r 0 low) 1 high

-- what a random read of record n leaves in a buffer of zeros
unfoldable pub shown_bytes : Geometry → List ℕ → ℕ → List ℕ → ℕ → List ℕ
shown_bytes g v u name n =
    unless_refused (first_met (read_tests g v u name n NoGroup)) (read_bytes g v u name n) (replicate record_bytes 0)

-- the bytes of a write of record n: those of the buffer, or those that a read shows, but for the first two
abbrev pub bytes_of : Geometry → List ℕ → ℕ → List ℕ → ℕ → Source → List ℕ
bytes_of g v u name n (Buffer b) = b.now
bytes_of g v u name n (Standing low high) = with_first_two low high (shown_bytes g v u name n)

-- how many bytes there are to be written
abbrev pub source_length : Source → ℕ
source_length (Buffer b) = length b.now
source_length (Standing low high) = record_bytes
