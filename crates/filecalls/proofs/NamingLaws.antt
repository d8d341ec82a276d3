-- The calls that name a file and are lent no buffer: what is lent refuses, or the tests that follow decide all that is left.
use mathlib.Core.Path.{◌≡◌, sym, ap, ◌∙◌}
use mathlib.Core.Bool.{Bool, true, false, not, cond}
use mathlib.Core.List.{List, [], ◌++◌}
use Prim.Native.Nat.{ℕ}
use Rattle.call_answers.specs.declared.Refusal.{Refusal}
use Rattle.call_answers.specs.declared.Answer.TheVariants.{Done, Refused}
use Rattle.call_answers.specs.Refusal.{Test, is_none, first, first_met}
use Rattle.call_answers.proofs.Ladder.{ladder_append}
use Rattle.filecalls.specs.declared.Drive.{Drive}
use Rattle.filecalls.specs.declared.Reply.{Reply}
use Rattle.disk_stores.specs.Stores.{Store, laid}
use Rattle.filecalls.specs.Outcome.{Change, Act, done, unless, outcome, left, with_held, changed_state}
use Rattle.filecalls.specs.CodeLadder.{named_tests, plain_tests}
use Rattle.filecalls.proofs.OutcomeLaws.{passes, either, refused_at, decided}
use Rattle.filecalls.proofs.StateLaws.{Named, no_buffer}

-- tests of the state or the control block, asked before a group
pub after : {why b : Refusal} (xs ts : List Test) → b ≡ first_met xs → why ≡ first b (first_met ts) → why ≡ first_met (xs ++ ts)
after xs ts e p = p ∙ ap (λ (u : Refusal). first u (first_met ts)) e ∙ sym (ladder_append xs ts)

-- the state with other held blocks, or as it was
pub held_or : (d : Drive) (t : Bool) {h : List ℕ} (k : List ℕ) → h ≡ cond t k d.held → with_held d h ≡ cond t (with_held d k) d
held_or d true k e = rw e
held_or d false k e = rw e

module _ (d : Drive) (v f : List ℕ) where
  -- what is lent refuses, as code learns it
  pub named_no : {why : Refusal} {r : Reply} {t : Bool} (p : Bool) (ys : List Test) (act : Act)
      → why ≡ first_met (named_tests d v f 128 p) → t ≡ is_none why → not t ≡ true → r ≡ record { answer = Refused why; drive = d }
      → left r v f [] ≡ outcome d v f [] (unless (plain_tests d v f p ++ ys) act)
  named_no p ys act e i h w = refused_at d v f [] (plain_tests d v f p) ys act (e ∙ no_buffer d v f p) i h w

  -- what is lent passes, and the tests that follow decide
  pub named_decided : {p : Bool} {why : Refusal} {r : Reply} {d' : Drive} {v' f' : List ℕ} → Named d v f p
      → (k : ℕ) (c : Change) (ss : List Store) (f₂ : List ℕ) (ys : List Test)
      → why ≡ first_met ys → d' ≡ cond (is_none why) (changed_state d v c) d → v' ≡ cond (is_none why) (laid d.geometry v ss) v
      → f' ≡ cond (is_none why) f₂ f → r ≡ record { answer = cond (is_none why) (Done k) (Refused why); drive = d' }
      → left r v' f' [] ≡ outcome d v f [] (unless (plain_tests d v f p ++ ys) (done k c ss f₂ []))
  named_decided {p} {why} lent k c ss f₂ ys e ed ev ef q =
      decided d v f [] k c ss f₂ [] ys e ed ev ef (either {A = List ℕ} (is_none why) []) q ∙ ap (outcome d v f []) (sym (passes (plain_tests d v f p) ys _ lent.none))
