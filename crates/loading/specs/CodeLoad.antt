-- What code may rely on once the tests have passed; not for the reader of the paper.
use Rattle.std.specs.Prelude.{◌≡◌, true, List, ℕ, ◌+◌, ◌*◌, ◌≤◌, ◌<◌, length, get_or}
use Rattle.disk_geometry.specs.Geometry.{record_bytes}
use Rattle.call_fcb.specs.Fcb.{fcb_bytes}
use Rattle.filecalls.specs.declared.Drive.{Drive}
use Rattle.memory_spans.specs.declared.Span.{Span}
use Rattle.memory_spans.specs.Span.{places, paragraph_bytes, none}
use Rattle.memory_calls.specs.declared.Table.{Table}
use Rattle.memory_calls.specs.Table.{within_rules}
use Rattle.load_header.specs.Header.{descriptors, length_at, groups, good_header, image_start}
use Rattle.load_records.specs.Records.{image_records}

-- the image of each of the first n groups fits at the start of its region
pub record Held (h : List ℕ) (granted : List Span) (bytes n : ℕ) : Type 0 where
  pub inside : (i : ℕ) → i < n → paragraph_bytes * (get_or granted i none).start + paragraph_bytes * length_at h i ≤ bytes

-- the file was read, and 65, 60, 61 and 63 are not answered
pub record Tested (d : Drive) (v f h : List ℕ) (n : ℕ) (t : Table) (bytes : ℕ) : Type 0 where
  pub lent : length f ≡ fcb_bytes
  pub number : n ≡ groups h
  pub few : n ≤ descriptors
  pub rules : within_rules bytes t ≡ true
  pub header : good_header h ≡ true
  pub whole : paragraph_bytes * image_start h n ≤ record_bytes * image_records d v f
  pub left : t.granted + n ≤ places
  pub used : t.used ≤ places
