-- What a call leaves whose stores are cut: refused it makes none, done it makes those that were left for it, and with enough it
-- is the call.
use mathlib.Core.Path.{◌≡◌, refl, sym, ap, ◌∙◌}
use mathlib.Core.Bool.{Bool, true, false, not, cond, true≢false}
use mathlib.Core.List.{List, [], ◌++◌}
use Prim.Native.Nat.{ℕ, ◌-◌, ◌≤◌}
use native.Mathlib.Omega.{arith}
use lib.ListN.{length}
use Rattle.call_answers.specs.declared.Refusal.{Refusal}
use Rattle.call_answers.specs.declared.Answer.TheVariants.{Done, Refused}
use Rattle.call_answers.specs.Refusal.{Test, is_none, first_met}
use Rattle.call_answers.specs.Answer.{succeeded}
use Rattle.disk_stores.specs.Stores.{Store, cut}
use Rattle.disk_stores.proofs.LaidLaws.{cut_enough}
use Rattle.disk_stores.proofs.CodeLaws.{cut_none}
use Rattle.filecalls.specs.declared.Drive.{Drive}
use Rattle.filecalls.specs.declared.Reply.{Reply}
use Rattle.filecalls.specs.Outcome.{Change, Act, deny, done, act_stores, unless, outcome, left, changed_state}
use Rattle.filecalls.specs.Stores.{Cut, cut_outcome, cut_left}
use Rattle.filecalls.specs.CodeLadder.{named_tests, plain_tests}
use Rattle.filecalls.proofs.OutcomeLaws.{stops, passes, refuses, either}
use Rattle.filecalls.proofs.StateLaws.{Named, no_buffer}

none_taken : (most : ℕ) → most - 0 ≡ most
none_taken most = omega arith

module _ (d : Drive) (v f b : List ℕ) (most : ℕ) where
  -- an act that is refused
  pub cut_no : {r : Reply} {why : Refusal} {u : Act} → u ≡ deny why → r ≡ record { answer = Refused why; drive = d }
      → cut_left r v f b most ≡ cut_outcome most d v f b u
  unfolding cut_outcome outcome
  cut_no {r} {why} {u} e p = rw (p, e, cut_none d.geometry v most, none_taken most)

  -- a first group of tests refuses, as code learns it
  pub cut_refused_at : {why : Refusal} {r : Reply} {t : Bool} (xs ys : List Test) (act : Act)
      → why ≡ first_met xs → t ≡ is_none why → not t ≡ true → r ≡ record { answer = Refused why; drive = d }
      → cut_left r v f b most ≡ cut_outcome most d v f b (unless (xs ++ ys) act)
  cut_refused_at xs ys act e i h p = cut_no (stops xs ys act (refuses xs e i h) ∙ ap deny (sym e)) p

  -- the last group of tests decides, and all that is left was changed only where it does not refuse
  pub cut_decided : {why : Refusal} {r : Reply} {d' : Drive} {v' f' b' : List ℕ} {n : ℕ} (k : ℕ) (c : Change) (ss : List Store) (f₂ b₂ : List ℕ) (ys : List Test)
      → why ≡ first_met ys → d' ≡ cond (is_none why) (changed_state d v c) d → v' ≡ cond (is_none why) (cut d.geometry v most ss) v
      → f' ≡ cond (is_none why) f₂ f → b' ≡ cond (is_none why) b₂ b → n ≡ cond (is_none why) (most - length ss) most
      → r ≡ record { answer = cond (is_none why) (Done k) (Refused why); drive = d' }
      → cut_left r v' f' b' n ≡ cut_outcome most d v f b (unless ys (done k c ss f₂ b₂))
  unfolding unless outcome cut_outcome
  cut_decided {why} {r} {d'} {v'} {f'} {b'} {n} k c ss f₂ b₂ ys e ed ev ef eb en p = go (is_none why) refl
    where
      go : (t : Bool) → is_none why ≡ t → cut_left r v' f' b' n ≡ cut_outcome most d v f b (unless ys (done k c ss f₂ b₂))
      go true h = rw (p, ed, ev, ef, eb, en, ← e, h)
      go false h = rw (p, ed, ev, ef, eb, en, ← e, h, cut_none d.geometry v most, none_taken most)

  -- "the call is that function with enough of them"
  pub cut_whole : (act : Act) → length (act_stores act) ≤ most → (cut_outcome most d v f b act).outcome ≡ outcome d v f b act
  unfolding cut_outcome outcome
  cut_whole (deny why) h = rw (cut_none d.geometry v most)
  cut_whole (done k c ss f' b') h = rw (cut_enough d.geometry v ss most h)

  -- the same as code learns it
  pub code_whole : {r : Reply} {v' f' b' : List ℕ} {n : ℕ} (act : Act) → length (act_stores act) ≤ most
      → cut_left r v' f' b' n ≡ cut_outcome most d v f b act → left r v' f' b' ≡ outcome d v f b act
  code_whole act h e = ap (λ (c : Cut). c.outcome) e ∙ cut_whole act h

-- a refused call has no stores
pub refused_stores : (d : Drive) (v f b : List ℕ) (act : Act) → succeeded (outcome d v f b act).answer ≡ false → act_stores act ≡ []
unfolding outcome
refused_stores d v f b (deny why) e = refl
refused_stores d v f b (done k c ss f' b') e = absurd (true≢false e)

-- a ladder before an act: no more stores than the act has where none of its tests is met
pub unless_most : (ts : List Test) (act : Act) (most : ℕ) → (is_none (first_met ts) ≡ true → length (act_stores act) ≤ most) → length (act_stores (unless ts act)) ≤ most
unfolding unless
unless_most ts act most h = go (is_none (first_met ts)) refl
  where
    go : (t : Bool) → is_none (first_met ts) ≡ t → length (act_stores (cond t act (deny (first_met ts)))) ≤ most
    go true e = h e
    go false e = omega arith

-- ---- the calls that name a file and are lent no buffer
module _ (d : Drive) (v f : List ℕ) (most : ℕ) where
  pub cut_named_no : {why : Refusal} {r : Reply} {t : Bool} (p : Bool) (ys : List Test) (act : Act)
      → why ≡ first_met (named_tests d v f 128 p) → t ≡ is_none why → not t ≡ true → r ≡ record { answer = Refused why; drive = d }
      → cut_left r v f [] most ≡ cut_outcome most d v f [] (unless (plain_tests d v f p ++ ys) act)
  cut_named_no p ys act e i h w = cut_refused_at d v f [] most (plain_tests d v f p) ys act (e ∙ no_buffer d v f p) i h w

  pub cut_named_decided : {p : Bool} {why : Refusal} {r : Reply} {d' : Drive} {v' f' : List ℕ} {n : ℕ} → Named d v f p
      → (k : ℕ) (c : Change) (ss : List Store) (f₂ : List ℕ) (ys : List Test)
      → why ≡ first_met ys → d' ≡ cond (is_none why) (changed_state d v c) d → v' ≡ cond (is_none why) (cut d.geometry v most ss) v
      → f' ≡ cond (is_none why) f₂ f → n ≡ cond (is_none why) (most - length ss) most
      → r ≡ record { answer = cond (is_none why) (Done k) (Refused why); drive = d' }
      → cut_left r v' f' [] n ≡ cut_outcome most d v f [] (unless (plain_tests d v f p ++ ys) (done k c ss f₂ []))
  cut_named_decided {p} {why} lent k c ss f₂ ys e ed ev ef en q =
      cut_decided d v f [] most k c ss f₂ [] ys e ed ev ef (either {A = List ℕ} (is_none why) []) en q
      ∙ ap (cut_outcome most d v f []) (sym (passes (plain_tests d v f p) ys _ lent.none))
