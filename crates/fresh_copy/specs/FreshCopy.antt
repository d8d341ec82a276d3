-- Request (xiv): "a copy in good order, written to a second lent volume of the same geometry, the first unchanged. .. Refusals: those
-- of log-in for the first, then 33 for the second."
use Rattle.std.specs.Prelude.{not, cond, List, ℕ, eqb, length}
use Rattle.disk_geometry.specs.declared.Geometry.{Geometry}
use Rattle.disk_geometry.specs.Geometry.{bytes}
use Rattle.call_answers.specs.declared.Refusal.TheVariants.{VolumeLength}
use Rattle.call_answers.specs.declared.Answer.{Answer}
use Rattle.call_answers.specs.declared.Answer.TheVariants.{Refused}
use Rattle.call_answers.specs.Answer.{succeeded}
use Rattle.filecalls.specs.LogIn.{log_in}
use Rattle.fresh_volume.specs.Copy.{fresh}

-- what the copy leaves: its answer, and both volumes
pub record Copied : Type 0 where
  pub answer : Answer
  pub first : List ℕ
  pub second : List ℕ

abbrev pub copied : Answer → List ℕ → List ℕ → Copied
copied a v w = record { answer = a; first = v; second = w }

-- log-in's answer for the first has the number of free blocks or the bad slot; a refused copy alters no byte of either
unfoldable pub fresh_copy : Geometry → List ℕ → List ℕ → Copied
fresh_copy g v w =
    let said = (log_in g v).answer in
    let done = copied said v (fresh g v w) in
    cond (not (succeeded said)) (copied said v w)
    (cond (not (eqb (length w) (bytes g))) (copied (Refused VolumeLength) v w)
    done)
