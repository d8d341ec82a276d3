-- A call of several records: what its tests and its single calls give the whole call.
use mathlib.Core.Path.{◌≡◌, refl, sym, ap, ◌∙◌}
use mathlib.Core.Bool.{Bool, true, false, not}
use mathlib.Core.List.{List}
use Prim.Native.Nat.{ℕ, ◌≤◌}
use native.Mathlib.Omega.{arith}
use Rattle.call_answers.specs.declared.Refusal.{Refusal}
use Rattle.call_answers.specs.declared.Answer.TheVariants.{Several}
use Rattle.call_answers.specs.Refusal.{is_none, first_met}
use Rattle.call_answers.specs.Answer.{value_of, succeeded}
use Rattle.filecalls.specs.declared.Drive.{Drive}
use Rattle.filecalls.specs.declared.Reply.{Reply}
use Rattle.filecalls.specs.Outcome.{Outcome, left}
use Rattle.filecalls.specs.Read.{read_sequential_act}
use Rattle.filecalls.specs.Write.{write_sequential_act}
use Rattle.filecalls.proofs.OutcomeLaws.{same_all, outcome_refused, refuses, clears}
use Rattle.several.proofs.SeveralLent.{lent_pieces}
use Rattle.filecalls.specs.Leaves.{read_sequential_leaves, write_sequential_leaves}
use Rattle.several.specs.Several.{Single, several_tests, ended, on_piece, singles, several}
use Rattle.several.proofs.SinglesLaws.{chosen, Holds, Refuses, singles_keep, count_most, none_done}

-- the tests of what is lent refuse, or leave the records to the single calls
pub several_refused : (single : Single) (d : Drive) (v f b : List ℕ) (k : ℕ) → is_none (first_met (several_tests d v f b k)) ≡ false
    → several single d v f b k ≡ ended 0 (first_met (several_tests d v f b k)) d v f b
unfolding several
several_refused single d v f b k e = rw e

pub several_passed : (single : Single) (d : Drive) (v f b : List ℕ) (k : ℕ) → is_none (first_met (several_tests d v f b k)) ≡ true
    → several single d v f b k ≡ singles single 0 k d v f b
unfolding several
several_passed single d v f b k e = rw e

-- the same as code learns it
module _ (single : Single) (d : Drive) (v f b : List ℕ) (k : ℕ) {why : Refusal} {t : Bool} (e : why ≡ first_met (several_tests d v f b k)) (i : t ≡ is_none why) where
  pub code_refused : not t ≡ true → {r : Reply} → r ≡ record { answer = Several 0 why; drive = d } → left r v f b ≡ several single d v f b k
  code_refused h q = rw q (ap (λ (w : Refusal). ended 0 w d v f b) e ∙ sym (several_refused single d v f b k (refuses (several_tests d v f b k) e i h)))

  pub code_passed : not t ≡ false → is_none (first_met (several_tests d v f b k)) ≡ true
  code_passed h = clears (several_tests d v f b k) e i h

-- a property of the whole call, by the tests
pub several_chosen : (P : Outcome → Type 0) (single : Single) (d : Drive) (v f b : List ℕ) (k : ℕ)
    → (is_none (first_met (several_tests d v f b k)) ≡ true → P (singles single 0 k d v f b))
    → (is_none (first_met (several_tests d v f b k)) ≡ false → P (ended 0 (first_met (several_tests d v f b k)) d v f b))
    → P (several single d v f b k)
unfolding several
several_chosen P single d v f b k h n =
    chosen P (is_none (first_met (several_tests d v f b k))) (singles single 0 k d v f b) (ended 0 (first_met (several_tests d v f b k)) d v f b) h n

-- what each single call keeps, the call keeps
pub several_keeps : (single : Single) (Q : Drive → List ℕ → List ℕ → List ℕ → Type 0)
    → ((i : ℕ) (d : Drive) (v f b : List ℕ) → Q d v f b → Holds Q (on_piece single i d v f b))
    → (d : Drive) (v f b : List ℕ) (k : ℕ) → Q d v f b → Holds Q (several single d v f b k)
several_keeps single Q one d v f b k q = several_chosen (Holds Q) single d v f b k (λ h. singles_keep single Q one k 0 d v f b q) (λ h. q)

-- at most sixteen are done
pub done_most : (single : Single) (d : Drive) (v f b : List ℕ) (k : ℕ) → value_of (several single d v f b k).answer ≤ 16
done_most single d v f b k =
    several_chosen (λ o. value_of o.answer ≤ 16) single d v f b k
    (λ h. omega (arith, count_most single k 0 d v f b, (lent_pieces d v f b k h).most)) (λ h. omega arith)

-- with none done, all is as given
pub leaves_all : (single : Single) → Refuses single → (d : Drive) (v f b : List ℕ) (k : ℕ) → succeeded (several single d v f b k).answer ≡ false
    → several single d v f b k ≡ same_all (several single d v f b k) d v f b
leaves_all single refuses d v f b k =
    several_chosen (λ o. succeeded o.answer ≡ false → o ≡ same_all o d v f b) single d v f b k
    (λ h. none_done single refuses k d v f b (omega (arith, (lent_pieces d v f b k h).buffer))) (λ h s. refl)

pub read_refuses : Refuses read_sequential_leaves
read_refuses d v f b = outcome_refused d v f b (read_sequential_act d v f b)

pub write_refuses : Refuses write_sequential_leaves
write_refuses d v f b = outcome_refused d v f b (write_sequential_act d v f b)
