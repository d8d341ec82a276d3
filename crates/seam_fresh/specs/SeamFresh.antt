-- What `churawel_fresh_copy` leaves, for every input: its answer as one number, and every byte of both volumes.
use Rattle.std.specs.Prelude.{List, ℕ}
use Rattle.disk_geometry.specs.declared.Geometry.{Geometry}
use Rattle.fresh_copy.specs.FreshCopy.{fresh_copy}
use Rattle.seam_words.specs.Answered.{answered}

-- the answer, and the bytes of the first volume and the second
pub record FreshSealed : Type 0 where
  pub answer : ℕ
  pub first : List ℕ
  pub second : List ℕ

abbrev pub fresh_sealed : ℕ → List ℕ → List ℕ → FreshSealed
fresh_sealed r v w = record { answer = r; first = v; second = w }

-- by geometry, and the bytes of both volumes
unfoldable pub fresh_at_seam : Geometry → List ℕ → List ℕ → FreshSealed
fresh_at_seam g v w = fresh_sealed (answered (fresh_copy g v w).answer) (fresh_copy g v w).first (fresh_copy g v w).second
