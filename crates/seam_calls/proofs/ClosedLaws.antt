-- A state that counts as closed: every call but a log-in asks that first, and is refused by 32.
use mathlib.Core.Path.{◌≡◌, refl}
use mathlib.Core.Bool.{true, false, false≢true}
use mathlib.Core.List.{List, [], ◌∷◌}
use Prim.Native.Nat.{ℕ}
use Rattle.disk_geometry.specs.declared.Geometry.{Geometry}
use Rattle.call_answers.specs.declared.Refusal.TheVariants.{Closed}
use Rattle.call_answers.specs.declared.Answer.{Answer}
use Rattle.call_answers.specs.declared.Answer.TheVariants.{Refused}
use Rattle.call_answers.specs.Refusal.{Test, first_met}
use Rattle.call_answers.specs.Answer.{succeeded}
use Rattle.filecalls.specs.declared.Drive.{Drive}
use Rattle.filecalls.specs.State.{is_open}
use Rattle.filecalls.specs.Tests.{closed_state}
use Rattle.filecalls.specs.Outcome.{Act, deny, unless, outcome}
use Rattle.filecalls.specs.Open.{open_tests, open_act, close_tests, close_act, size_tests, size_act}
use Rattle.filecalls.specs.Search.{first_tests, search_first_act, next_tests, search_next_act}
use Rattle.filecalls.specs.Names.{delete_ladder, delete_act, make_ladder, make_act, rename_ladder, rename_act, attributes_ladder, attributes_act}
use Rattle.filecalls.specs.Read.{sequential_tests, random_tests, read_sequential_act, read_random_act}
use Rattle.filecalls.specs.Write.{write_sequential_act, write_random_act, write_zero_fill_act}
use Rattle.filecalls.specs.Small.{protect_tests, protect_act, user_tests, user_act, set_random_tests, set_random_act}
use Rattle.several.specs.Several.{Single, several_tests, several}
use Rattle.filecalls.proofs.OutcomeLaws.{met}
use Rattle.call_served.specs.declared.Call.{Call}
use Rattle.call_served.specs.declared.Call.TheVariants.{LogIn, Open, Close, SearchFirst, SearchNext, Delete, Make, Rename, Protect, Attributes, User, Size, SetRandom, Moves, Unserved}
use Rattle.call_served.specs.declared.Transfer.TheVariants.{ReadSequential, WriteSequential, ReadRandom, WriteRandom, WriteZeroFill, ReadSeveral, WriteSeveral}
use Rattle.bdos.specs.Step.{carries, does}
use Rattle.seam_words.specs.Answered.{answered}
use Rattle.seam_calls.specs.CodeSeam.{asks_open}

-- an answer that says 32 and no success
pub record Shut (a : Answer) : Type 0 where
  pub number : answered a ≡ answered (Refused Closed)
  pub fails : succeeded a ≡ false

module _ (d : Drive) (shut : is_open d ≡ false) where
  first_shut : (ts : List Test) → first_met (closed_state d ∷ ts) ≡ Closed
  unfolding first_met
  first_shut ts = rw shut

  out : (ts : List Test) (act : Act) → unless (closed_state d ∷ ts) act ≡ deny Closed
  out ts act = rw shut (met Closed ts act refl)

  denied : (v f b : List ℕ) (act : Act) → act ≡ deny Closed → Shut (outcome d v f b act).answer
  unfolding outcome
  denied v f b act e = rw e (record { number = refl; fails = refl })

  several_shut : (single : Single) (v f b : List ℕ) (k : ℕ) → Shut (several single d v f b k).answer
  unfolding several several_tests answered
  several_shut single v f b k = rw first_shut (record { number = refl; fails = refl })

  pub call_shut : (g : Geometry) (p : ℕ) (v f b : List ℕ) (call : Call) → asks_open call ≡ true → Shut (does g call p d v f b).answer
  unfolding does carries open_tests open_act close_tests close_act size_tests size_act first_tests search_first_act next_tests search_next_act delete_ladder delete_act make_ladder make_act rename_ladder rename_act attributes_ladder attributes_act sequential_tests random_tests read_sequential_act read_random_act write_sequential_act write_random_act write_zero_fill_act protect_tests protect_act user_tests user_act set_random_tests set_random_act
  call_shut g p v f b LogIn e = absurd (false≢true e)
  call_shut g p v f b Open e = denied v f [] _ (out _ _)
  call_shut g p v f b Close e = denied v f [] _ (out _ _)
  call_shut g p v f b SearchFirst e = denied v f b _ (out _ _)
  call_shut g p v f b SearchNext e = denied v [] b _ (out _ _)
  call_shut g p v f b Delete e = denied v f [] _ (out _ _)
  call_shut g p v f b Make e = denied v f [] _ (out _ _)
  call_shut g p v f b Rename e = denied v f [] _ (out _ _)
  call_shut g p v f b Protect e = denied [] [] [] _ (out _ _)
  call_shut g p v f b Attributes e = denied v f [] _ (out _ _)
  call_shut g p v f b User e = denied [] [] [] _ (out _ _)
  call_shut g p v f b Size e = denied v f [] _ (out _ _)
  call_shut g p v f b SetRandom e = denied [] f [] _ (out _ _)
  call_shut g p v f b (Moves ReadSequential) e = denied v f b _ (out _ _)
  call_shut g p v f b (Moves WriteSequential) e = denied v f b _ (out _ _)
  call_shut g p v f b (Moves ReadRandom) e = denied v f b _ (out _ _)
  call_shut g p v f b (Moves WriteRandom) e = denied v f b _ (out _ _)
  call_shut g p v f b (Moves WriteZeroFill) e = denied v f b _ (out _ _)
  call_shut g p v f b (Moves ReadSeveral) e = several_shut _ v f b p
  call_shut g p v f b (Moves WriteSeveral) e = several_shut _ v f b p
  call_shut g p v f b Unserved e = absurd (false≢true e)
