-- The map evaluated, with numbers of one byte (T 256) and of two (T 257): a number written, and read back.
use mathlib.Core.Path.{◌≡◌, refl}
use mathlib.Core.List.{[], ◌∷◌}
use lib.ListN.{replicate}
use Rattle.lists.specs.Bytes.{part}
use Rattle.disk_geometry.specs.declared.Geometry.{Geometry}
use Rattle.disk_geometry.specs.Geometry.{geometry_of}
use Rattle.disk_volume.specs.Entry.{Entry, place_start, block_in, with_block}

abbrev narrow : Geometry
narrow = geometry_of 2048 256 1

abbrev wide : Geometry
wide = geometry_of 2048 257 1

abbrev empty : Entry
empty = replicate 32 0

-- block 256 in the first place, "low first"
pub low_first : part (with_block wide empty 0 256) 16 4 ≡ 0 ∷ 1 ∷ 0 ∷ 0 ∷ []
unfolding with_block part
low_first = refl

-- block 4,011 in the eighth place, the last; a ninth would begin behind the entry
pub eighth : part (with_block wide empty 7 4011) 28 4 ≡ 0 ∷ 0 ∷ 171 ∷ 15 ∷ []
unfolding with_block part
eighth = refl

pub no_ninth : place_start wide 8 ≡ 32
no_ninth = refl

pub read_back : block_in wide (with_block wide empty 7 4011) 7 ≡ 4011
unfolding block_in with_block
read_back = refl

-- the same two bytes are one number of two, or two of one
abbrev both : Entry
both = with_block wide empty 0 513

pub two_of_one : block_in wide both 0 ∷ block_in narrow both 0 ∷ block_in narrow both 1 ∷ [] ≡ 513 ∷ 1 ∷ 2 ∷ []
unfolding block_in with_block
two_of_one = refl

-- with numbers of one byte the map is as it was: block 255 in the sixteenth place
pub sixteenth : part (with_block narrow empty 15 255) 30 2 ≡ 0 ∷ 255 ∷ []
unfolding with_block part
sixteenth = refl
