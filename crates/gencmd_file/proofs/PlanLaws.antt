-- The plan: it is safe, and carried out it is what the call leaves.
use Rattle.std.proofs.Common.{◌≡◌, ℕ, Bool, true, false, cond, List, length, eqb, ltb, is_none, Option, Some, None, Ok, Err, refl, ap}
use Rattle.load_header.specs.Header.{CODE}
use Rattle.gencmd_lines.specs.declared.Refusal.{Refusal}
use Rattle.gencmd_lines.specs.declared.Refusal.TheVariants.{NoCode, Room}
use Rattle.gencmd_lines.specs.Refusal.{first, refusing, unless}
use Rattle.gencmd_lines.specs.Lines.{lines_of, lines_refusal, lines_in}
use Rattle.gencmd_groups.specs.declared.Groups.{Groups}
use Rattle.gencmd_groups.specs.Groups.{reach_of, reaches, sizes_of}
use Rattle.gencmd_groups.specs.CodeMeasure.{measured, ReachWithin}
use Rattle.gencmd_groups.proofs.ReachLaws.{reaches_within}
use Rattle.gencmd_file.specs.File.{file_length, file_of}
use Rattle.gencmd_file.specs.Gencmd.{answered, refusal_of, gencmd}
use Rattle.gencmd_file.specs.CodePlan.{plan_for, plan_by, plan_of, carried}
use Rattle.gencmd_file.proofs.FileLaws.{length_file}

-- ---- what measuring tells is safe
pub reach_within : (text : List ℕ) {r : Groups} → Ok r ≡ measured (lines_of text) → ReachWithin r
reach_within text {r} e = go (lines_refusal (lines_of text)) refl e
  where
    go : (w : Option Refusal) → lines_refusal (lines_of text) ≡ w → Ok r ≡ unless w (reaches (lines_in text)) → ReachWithin r
    go None p f = let z : r ≡ reaches (lines_in text) = cc in rw z (reaches_within (lines_of text) (ap is_none p))
    go (Some why) p f = cc

-- ---- the plan carried out is what the call leaves
module _ (text out : List ℕ) where
  abbrev s : Groups
  s = sizes_of (reaches (lines_in text))

  -- by the two tests that follow those of the lines
  fine : (u w : Bool)
      → carried (cond u (Err NoCode) (cond w (Err Room) (Ok s))) text out ≡ answered (first (refusing NoCode u) (refusing Room w)) (file_of (lines_in text)) out
  fine true w = refl
  fine false true = refl
  fine false false = rw (length_file (lines_in text) s)

  pub carried_is : carried (plan_of text (length out)) text out ≡ gencmd text out
  unfolding plan_of plan_for gencmd refusal_of
  carried_is = rw (length_file (lines_in text) s) (go (lines_refusal (lines_of text)))
    where
      u : Bool
      u = eqb (reach_of (lines_in text) CODE) 0

      w : Bool
      w = ltb (length out) (file_length s)

      go : (why : Option Refusal)
          → carried (plan_by (unless why (reaches (lines_in text))) (length out)) text out ≡ answered (first why (first (refusing NoCode u) (refusing Room w))) (file_of (lines_in text)) out
      go None = fine u w
      go (Some why) = refl
