-- The unskewed volume evaluated: two tracks whose sectors have their own numbers for bytes. What must stand in it was worked out by hand
-- from the table of request (i).
use mathlib.Core.Path.{◌≡◌, refl}
use mathlib.Core.List.{List, [], ◌∷◌, ◌++◌}
use Prim.Native.Nat.{ℕ, zero, suc}
use lib.ListN.{replicate}
use Rattle.lists.specs.Bytes.{part}
use Rattle.disk_geometry.specs.declared.Geometry.{Geometry}
use Rattle.disk_geometry.specs.EightInch.{sector_at, image_start, reserved_bytes}
use Rattle.disk_geometry.specs.Geometry.{eight_inch, geometry_of, with_placing, start}
use Rattle.unskewed.specs.Unskewed.{logical_from, unskewed}

-- 32 records, which are a track and six of the next. No such floppy is served; a short one tells as much as a long one
abbrev short : Geometry
short = with_placing (geometry_of 1024 4 1) eight_inch

-- records of these bytes, one behind the other
abbrev records_of : List ℕ → List ℕ
records_of [] = []
records_of (x ∷ xs) = replicate 128 x ++ records_of xs

-- k numbers from x on
abbrev numbers_from : ℕ → ℕ → List ℕ
numbers_from x zero = []
numbers_from x (suc k) = x ∷ numbers_from (suc x) k

-- sector s of track 2 has bytes s, of track 3 bytes 100 + s
image : List ℕ
image = replicate reserved_bytes 0 ++ (records_of (numbers_from 1 26) ++ records_of (numbers_from 101 26))

tracks-unskewed
    : unskewed short image
    ≡ records_of
    (1 ∷ 7 ∷ 13 ∷ 19 ∷ 25 ∷ 5 ∷ 11 ∷ 17 ∷ 23 ∷ 3 ∷ 9 ∷ 15 ∷ 21
    ∷ 2 ∷ 8 ∷ 14 ∷ 20 ∷ 26 ∷ 6 ∷ 12 ∷ 18 ∷ 24 ∷ 4 ∷ 10 ∷ 16 ∷ 22
    ∷ 101 ∷ 107 ∷ 113 ∷ 119 ∷ 125 ∷ 105 ∷ [])
unfolding unskewed logical_from part start sector_at image_start image
tracks-unskewed = refl
