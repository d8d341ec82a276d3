-- What C is told of a siglum, evaluated with the lists of `desk_manuscripts/proofs/Examples`: the number, 65,536 for the house list, and
-- 4,294,967,296 for each byte before the name. A replacement at the seam is evaluated in `desk_promises/proofs/Examples`.
use mathlib.Core.Path.{◌≡◌, refl}
use mathlib.Core.List.{List, [], ◌∷◌, ◌++◌}
use Prim.Native.Nat.{ℕ, ◌+◌, ◌*◌}
use Rattle.lists.specs.Bounded.{low_from}
use Rattle.desk_manuscripts.specs.Manuscript.{line_of, where_of}
use Rattle.desk_manuscripts.proofs.Examples.{own, house}
use Rattle.seam_desk.specs.Sigla.{manuscript_at_seam}

-- the first and the second line of the own list; the second line of the house list; in neither; a byte too much in the one or the other
abbrev pub told : List ℕ
told =
    manuscript_at_seam 8257 own house ∷ manuscript_at_seam 8258 own house ∷ manuscript_at_seam 8259 own house ∷ manuscript_at_seam 8260 own house
    ∷ manuscript_at_seam 8258 own (66 ∷ house) ∷ manuscript_at_seam 8260 (own ++ 66 ∷ []) house ∷ []

pub places_told : told ≡ (4294967296 * 2) ∷ (4294967296 * 34) ∷ (65536 + 4294967296 * 34) ∷ 51 ∷ 52 ∷ 52 ∷ []
unfolding manuscript_at_seam where_of line_of low_from
places_told = refl
