-- The same of the call: done, the second volume is a copy in every respect of `Holds`, and log-in says of it what it said of the first;
-- refused, the second is as it was; "the first unchanged", whatever is answered. Proved in `proofs/CallHoldsLaws`.
use Rattle.std.specs.Prelude.{◌≡◌, true, false, List, ℕ}
use Rattle.disk_geometry.specs.declared.Geometry.{Geometry}
use Rattle.disk_geometry.specs.Geometry.{floppy}
use Rattle.call_answers.specs.Answer.{succeeded}
use Rattle.filecalls.specs.LogIn.{log_in}
use Rattle.fresh_copy.specs.FreshCopy.{fresh_copy}
use Rattle.fresh_holds.specs.Holds.{HoldsOf, SpareOf}

-- the second volume as the call leaves it
abbrev pub left_second : Geometry → List ℕ → List ℕ → List ℕ
left_second g v w = (fresh_copy g v w).second

pub record CallHolds : Type 0 where
  pub first_stays : (g : Geometry) (v w : List ℕ) → (fresh_copy g v w).first ≡ v
  pub refused_stays : (g : Geometry) (v w : List ℕ) → succeeded (fresh_copy g v w).answer ≡ false → left_second g v w ≡ w
  pub done_holds : (g : Geometry) (v w : List ℕ) → succeeded (fresh_copy g v w).answer ≡ true → HoldsOf left_second g v w
  pub done_spare : (v w : List ℕ) → succeeded (fresh_copy floppy v w).answer ≡ true → SpareOf left_second v w
  pub done_says : (g : Geometry) (v w : List ℕ) → succeeded (fresh_copy g v w).answer ≡ true
      → (log_in g (left_second g v w)).answer ≡ (fresh_copy g v w).answer
