-- The block that a place of the map is given: "a zero map place gets the lowest free block". Request (ix) says which one "the
-- lowest free block" is.
use Rattle.std.specs.Prelude.{cond, List, ℕ, zero, suc, ◌+◌, max, ltb, eqb}
use Rattle.disk_geometry.specs.Geometry.{blocks, directory_blocks_of}
use Rattle.disk_geometry.specs.declared.Geometry.{Geometry}
use Rattle.disk_volume.specs.Entry.{Entry, block_in}
use Rattle.disk_held.specs.Held.{lowest_free}

-- "the block in the nearest lower used place of the same entry"; 0, which every free block is above, where none is used
unfoldable pub nearest_below : Geometry → Entry → ℕ → ℕ
nearest_below g e zero = 0
nearest_below g e (suc p) = let rest = nearest_below g e p in cond (eqb (block_in g e p) 0) rest (block_in g e p)

-- the block that place p of entry e is given, T where none is free: "the lowest free one above" that block, "and the lowest
-- free one where that place or such a block doesn't exist". Nothing else knows the rule.
unfoldable pub alloc : Geometry → List ℕ → Entry → ℕ → ℕ
unfolding nearest_below
alloc g held e p =
    let above = lowest_free held (max (directory_blocks_of g) (nearest_below g e p + 1)) (blocks g) in
    cond (ltb above (blocks g)) above (lowest_free held (directory_blocks_of g) (blocks g))
