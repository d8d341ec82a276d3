-- The three ways out of the copy: refused for the first, refused for the second, and done. a is what log-in answered for the first.
use mathlib.Core.Path.{◌≡◌}
use mathlib.Core.Bool.{true, false}
use mathlib.Core.List.{List}
use Prim.Native.Nat.{ℕ}
use lib.Dec.{eqb}
use lib.ListN.{length}
use Rattle.disk_geometry.specs.declared.Geometry.{Geometry}
use Rattle.disk_geometry.specs.Geometry.{bytes}
use Rattle.call_answers.specs.declared.Refusal.TheVariants.{VolumeLength}
use Rattle.call_answers.specs.declared.Answer.{Answer}
use Rattle.call_answers.specs.declared.Answer.TheVariants.{Refused}
use Rattle.call_answers.specs.Answer.{succeeded}
use Rattle.filecalls.specs.LogIn.{log_in}
use Rattle.fresh_volume.specs.Copy.{fresh}
use Rattle.fresh_copy.specs.FreshCopy.{copied, fresh_copy}

module _ (g : Geometry) (v w : List ℕ) {a : Answer} (said : a ≡ (log_in g v).answer) where
  pub first_refused : succeeded a ≡ false → copied a v w ≡ fresh_copy g v w
  unfolding fresh_copy
  first_refused f = rw (← said, f)

  module _ (ok : succeeded a ≡ true) where
    pub second_refused : eqb (length w) (bytes g) ≡ false → copied (Refused VolumeLength) v w ≡ fresh_copy g v w
    unfolding fresh_copy
    second_refused e = rw (← said, ok, e)

    pub copy_done : eqb (length w) (bytes g) ≡ true → {x : List ℕ} → x ≡ fresh g v w → copied a v x ≡ fresh_copy g v w
    unfolding fresh_copy
    copy_done e is = rw (← said, ok, e, is)
