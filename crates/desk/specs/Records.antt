-- A file's records as the file calls show and write them: "relying on nothing below but their promises". The control block f
-- is copied, and its r bytes are set to the record's number: they are not looked at. Everything that the desk tests and
-- changes (`Replace`) is said with these.
use Rattle.std.specs.Prelude.{Bool, List, ℕ, ◌/◌, ◌%◌, eqb, set}
use Rattle.numbers.specs.Numbers.{two}
use Rattle.call_fcb.specs.Fcb.{with_random}
use Rattle.call_answers.specs.Refusal.{is_none}
use Rattle.filecalls.specs.declared.Drive.{Drive}
use Rattle.filecalls.specs.Outcome.{Outcome}
use Rattle.filecalls.specs.Leaves.{write_random_leaves}
-- the random read of record n into a buffer of zeros, and all that it leaves
unfoldable pub use Rattle.record_reads.specs.Shown.{shown}
-- why record n can't be read, and its bytes
pub use Rattle.record_reads.specs.Shown.{unread, record_shown}

abbrev pub readable : Drive → List ℕ → List ℕ → ℕ → Bool
readable d v f n = is_none (unread d v f n)

-- "A reading record has its siglum in bytes 0 and 1"; a siglum is byte 0 and 256 times byte 1
abbrev pub bears : Drive → List ℕ → List ℕ → ℕ → ℕ → Bool
bears d v f siglum n = eqb (two (record_shown d v f n) 0) siglum

-- the record's bytes with another siglum
abbrev pub with_siglum : ℕ → List ℕ → List ℕ
with_siglum siglum r = set (set r 0 (siglum % 256)) 1 (siglum / 256)

-- the random write of record n with the bytes r, and all that it leaves
unfoldable pub written : Drive → List ℕ → List ℕ → ℕ → List ℕ → Outcome
written d v f n r = write_random_leaves d v (with_random f n) r

-- the volume once record n is rewritten with this siglum, by a write of the file calls
unfoldable pub rewritten : Drive → List ℕ → ℕ → List ℕ → ℕ → List ℕ
rewritten d f siglum v n = (written d v f n (with_siglum siglum (record_shown d v f n))).volume
