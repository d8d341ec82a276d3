-- A file as the file calls show it: "after those of random reads of record 0 and all records below the file's size". The control
-- block f is copied and its r bytes are set to the record's number: "r bytes, ex, s2 and cr of the control block are not looked
-- at". Record 0 is read first, then the size is asked, then each record below it is read.
use Rattle.std.specs.Prelude.{List, ℕ, zero, suc, ◌-◌}
use Rattle.joined.specs.Joined.{joined}
use Rattle.numbers.specs.Numbers.{three}
use Rattle.call_fcb.specs.Fcb.{R0}
use Rattle.call_answers.specs.declared.Refusal.{Refusal}
use Rattle.call_answers.specs.declared.Refusal.TheVariants.{None}
use Rattle.call_answers.specs.Refusal.{first}
use Rattle.call_answers.specs.Answer.{why_of}
use Rattle.filecalls.specs.declared.Drive.{Drive}
use Rattle.filecalls.specs.Outcome.{Outcome}
use Rattle.filecalls.specs.Leaves.{size_leaves}
use Rattle.record_reads.specs.Shown.{record_shown}
-- the random read of record n into a buffer of zeros, and all that it leaves
unfoldable pub use Rattle.record_reads.specs.Shown.{shown}
-- why record n can't be read
pub use Rattle.record_reads.specs.Shown.{unread}

-- its bytes
abbrev pub record_of : Drive → List ℕ → List ℕ → ℕ → List ℕ
record_of d v f n = record_shown d v f n

-- the file's size by function 35, and why it is refused
unfoldable pub measured : Drive → List ℕ → List ℕ → Outcome
measured d v f = size_leaves d v f

abbrev pub unsized : Drive → List ℕ → List ℕ → Refusal
unsized d v f = why_of (measured d v f).answer

abbrev pub records : Drive → List ℕ → List ℕ → ℕ
records d v f = three (measured d v f).fcb R0

-- the first refusal of k things from i on
unfoldable pub first_from : (ℕ → Refusal) → ℕ → ℕ → Refusal
first_from why i zero = None
first_from why i (suc k) = let rest = first_from why (suc i) k in first (why i) rest

-- the image has the records from 1 on
abbrev pub image_records : Drive → List ℕ → List ℕ → ℕ
image_records d v f = records d v f - 1

-- why the file can't be read: record 0, the size, the others
unfoldable pub read_why : Drive → List ℕ → List ℕ → Refusal
read_why d v f = first (unread d v f 0) (first (unsized d v f) (first_from (unread d v f) 1 (image_records d v f)))

-- "128 bytes of header .. then the image"
unfoldable pub image : Drive → List ℕ → List ℕ → List ℕ
image d v f = joined (record_of d v f) 1 (image_records d v f)
