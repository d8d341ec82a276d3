-- Several records a call: "Sequential read and write get a form with k records, 1 to 16, and a buffer of 128k bytes; each
-- record goes to its own piece of that buffer. It equals k single calls in order, stopping at the first refused one. It
-- answers how many were done and the stopping number, 0 if none." A refused single call leaves all as it was, so pieces from
-- the stop on keep their bytes.
use Rattle.std.specs.Prelude.{not, cond, ◌&&◌, List, [], ◌∷◌, ℕ, zero, suc, ◌*◌, leb, eqb, length}
use Rattle.lists.specs.Bytes.{part, put}
use Rattle.disk_geometry.specs.Geometry.{record_bytes}
use Rattle.call_answers.specs.declared.Refusal.{Refusal}
use Rattle.call_answers.specs.declared.Refusal.TheVariants.{None, BadCount, BufferLength}
use Rattle.call_answers.specs.declared.Answer.TheVariants as answer
use Rattle.call_answers.specs.Refusal.{Test, test, is_none, first_met}
use Rattle.call_answers.specs.Answer.{succeeded, why_of}
use Rattle.filecalls.specs.declared.Drive.{Drive}
use Rattle.filecalls.specs.Tests.{closed_state, volume_length, fcb_length}
use Rattle.filecalls.specs.Outcome.{Outcome}

-- "46 for k outside 1..16"
abbrev pub bad_count : ℕ → Test
bad_count k = test BadCount (not (leb 1 k && leb k 16))

-- "35 then asks for 128k"
abbrev pub pieces_length : ℕ → List ℕ → Test
pieces_length k b = test BufferLength (not (eqb (length b) (record_bytes * k)))

-- 32, 33, 34; "46 .., before 35"
unfoldable pub several_tests : Drive → List ℕ → List ℕ → List ℕ → ℕ → List Test
several_tests d v fcb b k = closed_state d ∷ volume_length d v ∷ fcb_length fcb ∷ bad_count k ∷ pieces_length k b ∷ []

-- a single call, `read_sequential_leaves` or `write_sequential_leaves`: of state, volume, control block and transfer buffer
-- all that it leaves
abbrev pub Single : Type 0
Single = Drive → List ℕ → List ℕ → List ℕ → Outcome

-- n records are done, and why no more
abbrev pub ended : ℕ → Refusal → Drive → List ℕ → List ℕ → List ℕ → Outcome
ended n why d v fcb b = record { answer = answer.Several n why; drive = d; volume = v; fcb = fcb; buffer = b }

-- "each record goes to its own piece of that buffer": piece i, and the single call that is lent it
abbrev pub piece_at : List ℕ → ℕ → List ℕ
piece_at b i = part b (record_bytes * i) record_bytes

unfoldable pub on_piece : Single → ℕ → Drive → List ℕ → List ℕ → List ℕ → Outcome
on_piece single i d v fcb b =
    let o : Outcome = single d v fcb (piece_at b i) in
    let pieces : List ℕ = put b (record_bytes * i) record_bytes o.buffer in
    record { answer = o.answer; drive = o.drive; volume = o.volume; fcb = o.fcb; buffer = pieces }

-- k single calls in order from piece i on, "stopping at the first refused one"
unfoldable pub singles : Single → ℕ → ℕ → Drive → List ℕ → List ℕ → List ℕ → Outcome
singles single i zero d v fcb b = ended i None d v fcb b
singles single i (suc k) d v fcb b =
    let o : Outcome = on_piece single i d v fcb b in
    let rest : Outcome = singles single (suc i) k o.drive o.volume o.fcb o.buffer in
    cond (succeeded o.answer) rest (ended i (why_of o.answer) o.drive o.volume o.fcb o.buffer)

-- the tests of what is lent refuse, or leave the records to the single calls
unfoldable pub several : Single → Drive → List ℕ → List ℕ → List ℕ → ℕ → Outcome
several single d v fcb b k =
    let done : Outcome = singles single 0 k d v fcb b in
    cond (is_none (first_met (several_tests d v fcb b k))) done (ended 0 (first_met (several_tests d v fcb b k)) d v fcb b)
