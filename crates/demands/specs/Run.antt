-- A run: a list of calls at the door, "each given the state the last returned" and the volume that the last left.
-- The kept way is `step`, in which the state carries the held blocks from call to call. The plain way works them out from
-- the directory before every call and otherwise does what the kept way does.
use Rattle.std.specs.Prelude.{List, [], ◌∷◌, ℕ}
use Rattle.call_answers.specs.declared.Answer.{Answer}
use Rattle.disk_rules.specs.Named.{held_of}
use Rattle.filecalls.specs.declared.Drive.{Drive}
use Rattle.filecalls.specs.Outcome.{Outcome, with_held}
use Rattle.call_served.specs.Asked.{Asked}

-- what a program sees of a call: the answer, the control block and the transfer buffer
pub record Seen : Type 0 where
  pub answer : Answer
  pub fcb : List ℕ
  pub buffer : List ℕ

abbrev pub seen : Outcome → Seen
seen o = record { answer = o.answer; fcb = o.fcb; buffer = o.buffer }

-- a way to do calls: by the call, the state and the volume
abbrev pub Way : Type 0
Way = Asked → Drive → List ℕ → Outcome

-- what is seen of each call of a run, and the volume at its end
unfoldable pub answers : Way → List Asked → Drive → List ℕ → List Seen
answers way [] d v = []
answers way (c ∷ cs) d v = seen (way c d v) ∷ answers way cs (way c d v).drive (way c d v).volume

unfoldable pub final : Way → List Asked → Drive → List ℕ → List ℕ
final way [] d v = v
final way (c ∷ cs) d v = final way cs (way c d v).drive (way c d v).volume

-- the state at its end
unfoldable pub final_state : Way → List Asked → Drive → List ℕ → Drive
final_state way [] d v = d
final_state way (c ∷ cs) d v = final_state way cs (way c d v).drive (way c d v).volume

-- the plain way
unfoldable pub plain : Way → Way
plain way c d v = way c (with_held d (held_of d.geometry v)) v
