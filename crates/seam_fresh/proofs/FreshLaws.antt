-- The answer of a copy fits, and what the copy leaves is what is said of it at the seam.
use mathlib.Core.Path.{◌≡◌, ap}
use mathlib.Core.Bool.{Bool, true, false, not, cond}
use mathlib.Core.List.{List}
use Prim.Native.Nat.{ℕ, ◌<◌}
use native.Mathlib.Omega.{arith}
use lib.Dec.{eqb}
use lib.ListN.{length}
use Rattle.disk_geometry.specs.declared.Geometry.{Geometry}
use Rattle.disk_geometry.specs.Geometry.{bytes}
use Rattle.call_answers.specs.declared.Refusal.TheVariants.{VolumeLength}
use Rattle.call_answers.specs.declared.Answer.{Answer}
use Rattle.call_answers.specs.declared.Answer.TheVariants.{Refused}
use Rattle.call_answers.specs.Answer.{value_of, succeeded}
use Rattle.filecalls.specs.LogIn.{log_in}
use Rattle.fresh_volume.specs.Copy.{fresh}
use Rattle.fresh_copy.specs.FreshCopy.{Copied, copied, fresh_copy}
use Rattle.seam_words.specs.Answered.{answered}
use Rattle.seam_fresh.specs.SeamFresh.{fresh_sealed, fresh_at_seam}
use Rattle.seam_words.proofs.ValueLaws.{log_in_value}

module _ (g : Geometry) (v w : List ℕ) where
  fresh_value : value_of (fresh_copy g v w).answer < 65536
  unfolding fresh_copy
  fresh_value = go (not (succeeded (log_in g v).answer)) (not (eqb (length w) (bytes g)))
    where
      go : (a b : Bool)
          → value_of (cond {A = Copied} a (copied (log_in g v).answer v w) (cond {A = Copied} b (copied (Refused VolumeLength) v w) (copied (log_in g v).answer v (fresh g v w)))).answer < 65536
      go true b = log_in_value g v
      go false true = omega arith
      go false false = log_in_value g v

  pub fresh_left : {a : Answer} {x : List ℕ} {r : ℕ} → copied a v x ≡ fresh_copy g v w → (value_of a < 65536 → r ≡ answered a)
      → fresh_sealed r v x ≡ fresh_at_seam g v w
  unfolding fresh_at_seam
  fresh_left e told = rw (← e, told (rw (ap (λ (c : Copied). c.answer) e) (fresh_value)))
