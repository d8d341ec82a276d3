-- The tie to the code: a run of calls at the door (`bdos::enter`), "each given the state the last returned" and the volume
-- that the last left. Of each call it is taken that it leaves what its contract says; that every call does is what the
-- check of `bdos` proves. So demand 3 speaks of what runs.
use Rattle.std.specs.Prelude.{◌≡◌, List, [], ◌∷◌, ℕ}
use Rattle.disk_geometry.specs.declared.Geometry.{Geometry}
use Rattle.filecalls.specs.declared.Drive.{Drive}
use Rattle.filecalls.specs.declared.Reply.{Reply}
use Rattle.filecalls.specs.Outcome.{left}
use Rattle.bdos.specs.Step.{step}
use Rattle.call_served.specs.Asked.{Asked}
use Rattle.demands.specs.Run.{Seen, answers, final}
use Rattle.demands.specs.Demand3.{touched, Kept, OverRuns}

-- the calls, the state and the volume that they begin with, what is seen of each, and the volume at the end
pub data Ran (g : Geometry) : List Asked → Drive → List ℕ → List Seen → List ℕ → Type 0 where
  ended : {d : Drive} {v : List ℕ} → Ran g [] d v [] v
  called : {c : Asked} {cs : List Asked} {d : Drive} {v w : List ℕ} {ss : List Seen} (r : Reply) (v' fcb' b' : List ℕ)
      → left r v' fcb' b' ≡ step g c d v
      → Ran g cs r.drive v' ss w
      → Ran g (c ∷ cs) d v (record { answer = r.answer; fcb = fcb'; buffer = b' } ∷ ss) w

-- such a run shows what the runs of demand 3 show, and leaves their volume
pub record IsStep (g : Geometry) (cs : List Asked) (d : Drive) (v : List ℕ) (ss : List Seen) (w : List ℕ) : Type 0 where
  pub answers_are : ss ≡ answers (step g) cs d v
  pub volume_is : w ≡ final (step g) cs d v

abbrev pub Tie : Type 0
Tie =
    (g : Geometry) (cs : List Asked) (d : Drive) (v : List ℕ) (ss : List Seen) (w : List ℕ) → Ran g cs d v ss w → IsStep g cs d v ss w

-- so such a run that begins with log-in on a volume that passes inspection has all that demand 3 says: ss and w are what the
-- plain way shows and leaves, w passes inspection, and the files that no successful call touched are as they were
abbrev pub TiedKept : Type 0
TiedKept = OverRuns (λ g v cs. (d e : Drive) (ss : List Seen) (w : List ℕ) → Ran g cs d v ss w → Kept (step g) g v cs e ss w (touched (step g) cs d v))
