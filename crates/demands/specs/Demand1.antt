-- Demand 1. "For every call and all inputs the answer is one of the paper's for that call; a refused call leaves volume,
-- control block, buffer and state as given; a refused log-in hands back the closed value; and the tests of each call
-- stand in the order of the paper's table." A call of several records is refused where none is done; one that stops after
-- some answers as successful by the number that stopped it.
-- Each sentence is a field of `Demand1Of`; that it holds is `demand1` in the proofs. Nothing is assumed of any input.
use Rattle.std.specs.Prelude.{◌≡◌, true, false, ◌≢◌, List, [], ◌∷◌, ℕ}
use Rattle.disk_geometry.specs.declared.Geometry.{Geometry}
use Rattle.call_answers.specs.Refusal.{Test, refusal_number, is_none, first_met}
use Rattle.call_answers.specs.Answer.{number_of, succeeded}
use Rattle.filecalls.specs.declared.Drive.{Drive}
use Rattle.filecalls.specs.Outcome.{Outcome}
use Rattle.filecalls.specs.State.{closed}
use Rattle.call_served.specs.declared.Call.{Call}
use Rattle.call_served.specs.declared.Call.TheVariants.{LogIn, Unserved}
use Rattle.bdos.specs.Step.{step}
use Rattle.call_served.specs.Asked.{Asked}
use Rattle.call_served.specs.Calls.{call_of}
use Rattle.demands.specs.Run.{Way}
use Rattle.demands.specs.Order.{paper_table, numbers_of, reasons, in_order, tests_of, refusals_of, among, answers_of}

-- ---- what the statement is written with
-- the call that is asked for, and its tests
abbrev pub call : Asked → Call
call c = call_of c.function

abbrev pub tests : Geometry → Asked → Drive → List ℕ → List Test
tests g c d v = tests_of g (call c) c.parameter d v c.fcb c.buffer

-- the state is s; volume, control block and buffer are as given
pub record Leaves (o : Outcome) (s : Drive) (v fcb b : List ℕ) : Type 0 where
  pub state_is : o.drive ≡ s
  pub volume_kept : o.volume ≡ v
  pub fcb_kept : o.fcb ≡ fcb
  pub buffer_kept : o.buffer ≡ b

-- ---- the statement, of a way to do calls
pub record Demand1Of (way : Geometry → Way) : Type 0 where
  -- "a refused call leaves volume, control block, buffer and state as given"
  pub refused_leaves_all : (g : Geometry) (c : Asked) (d : Drive) (v : List ℕ) → call c ≢ LogIn → succeeded (way g c d v).answer ≡ false
      → Leaves (way g c d v) d v c.fcb c.buffer
  -- "a refused log-in hands back the closed value"
  pub refused_log_in_closes : (g : Geometry) (c : Asked) (d : Drive) (v : List ℕ) → call c ≡ LogIn → succeeded (way g c d v).answer ≡ false
      → Leaves (way g c d v) closed v c.fcb c.buffer
  -- "the answer is one of the paper's for that call": a code of its success (of several records also the number that
  -- stopped it), or the number of one of its refusals
  pub success_of_paper : (g : Geometry) (c : Asked) (d : Drive) (v : List ℕ) → succeeded (way g c d v).answer ≡ true
      → answers_of (call c) (number_of (way g c d v).answer) ≡ true
  pub refusal_of_paper : (g : Geometry) (c : Asked) (d : Drive) (v : List ℕ) → succeeded (way g c d v).answer ≡ false
      → among (number_of (way g c d v).answer) (numbers_of (refusals_of (call c))) ≡ true
  -- the first test that is met refuses by its own number; where none is met the call succeeds
  pub first_test_refuses : (g : Geometry) (c : Asked) (d : Drive) (v : List ℕ) → is_none (first_met (tests g c d v)) ≡ false
      → (succeeded (way g c d v).answer ≡ false) × (number_of (way g c d v).answer ≡ refusal_number (first_met (tests g c d v)))
  pub no_test_succeeds : (g : Geometry) (c : Asked) (d : Drive) (v : List ℕ) → is_none (first_met (tests g c d v)) ≡ true
      → succeeded (way g c d v).answer ≡ true
  -- "the tests of each call stand in the order of the paper's table": whatever is given, they are the call's refusals, and
  -- those of the twenty calls are a part of one list
  pub tests_are : (g : Geometry) (k : Call) (p : ℕ) (d : Drive) (v fcb b : List ℕ) → reasons (tests_of g k p d v fcb b) ≡ refusals_of k
  pub in_table_order : (k : Call) → k ≢ Unserved → in_order (refusals_of k) paper_table ≡ true
  pub table_numbers : numbers_of paper_table
      ≡ 32 ∷ 33 ∷ 34 ∷ 46 ∷ 35 ∷ 42 ∷ 44 ∷ 39 ∷ 45 ∷ 40 ∷ 6 ∷ 36 ∷ 37 ∷ 255 ∷ 3 ∷ 38 ∷ 43 ∷ 4 ∷ 1 ∷ 41 ∷ 5 ∷ 255 ∷ 2 ∷ []

-- the demand
abbrev pub Demand1 : Type 0
Demand1 = Demand1Of step
