-- A log-in that is refused: it fails, its number is that of the first test that is met, its value is at most the slot.
use mathlib.Core.Path.{◌≡◌, refl, sym, ap, ◌∙◌}
use mathlib.Core.Bool.{Bool, true, false, cond, true≢false}
use mathlib.Core.List.{List, [], ◌∷◌, ◌++◌}
use Prim.Native.Nat.{ℕ, ◌≤◌}
use native.Mathlib.Omega.{arith}
use lib.Dec.{ltb}
use Rattle.disk_geometry.specs.declared.Geometry.{Geometry}
use Rattle.disk_geometry.specs.Geometry.{slots}
use Rattle.disk_rules.specs.GoodSlot.{lowest_bad}
use Rattle.call_answers.specs.declared.Refusal.TheVariants.{BadSlot}
use Rattle.call_answers.specs.declared.Answer.TheVariants as answer
use Rattle.call_answers.specs.Refusal.{Test, test, is_none, refusal_number, first_met}
use Rattle.call_answers.specs.Answer.{number_of, value_of, succeeded}
use Rattle.call_answers.proofs.Ladder.{ladder_stop, ladder_pass}
use Rattle.filecalls.specs.LogIn.{lent_log_in, log_in_tests, refused_log_in}

module _ (g : Geometry) (v : List ℕ) where
  pub refused_fails : succeeded (refused_log_in g v) ≡ false
  unfolding refused_log_in
  refused_fails = go (is_none (first_met (lent_log_in g v)))
    where
      go : (t : Bool) → succeeded (cond t (answer.BadSlot (lowest_bad g v)) (answer.Refused (first_met (lent_log_in g v)))) ≡ false
      go true = refl
      go false = refl

  pub refused_value : value_of (refused_log_in g v) ≤ lowest_bad g v
  unfolding refused_log_in
  refused_value = go (is_none (first_met (lent_log_in g v)))
    where
      go : (t : Bool) → value_of (cond t (answer.BadSlot (lowest_bad g v)) (answer.Refused (first_met (lent_log_in g v)))) ≤ lowest_bad g v
      go true = omega arith
      go false = omega arith

  -- 36 alone is left where 32 and 33 are not met
  bad_number : (m : Bool) → is_none (first_met (test BadSlot m ∷ [])) ≡ false → refusal_number BadSlot ≡ refusal_number (first_met (test BadSlot m ∷ []))
  unfolding first_met
  bad_number true e = refl
  bad_number false e = absurd (true≢false e)

  pub refused_number : is_none (first_met (log_in_tests g v)) ≡ false → number_of (refused_log_in g v) ≡ refusal_number (first_met (log_in_tests g v))
  unfolding refused_log_in log_in_tests
  refused_number e = go (is_none (first_met (lent_log_in g v))) refl
    where
      bad : List Test
      bad = test BadSlot (ltb (lowest_bad g v) (slots g)) ∷ []

      go : (t : Bool) → is_none (first_met (lent_log_in g v)) ≡ t
          → number_of (cond t (answer.BadSlot (lowest_bad g v)) (answer.Refused (first_met (lent_log_in g v)))) ≡ refusal_number (first_met (lent_log_in g v ++ bad))
      go true h =
          let p = ladder_pass (lent_log_in g v) bad h in
          bad_number _ (ap is_none (sym p) ∙ e) ∙ ap refusal_number (sym p)
      go false h = ap refusal_number (sym (ladder_stop (lent_log_in g v) bad h))
