-- The block shift and the block mask: the first three rows of "Tabelle 13" of 000, where a block size is called BLS.
--     BLS    BSH  BLM
--     1,024    3    7
--     2,048    4   15
--     4,096    5   31
use Rattle.std.specs.Prelude.{cond, ℕ, eqb}
use Rattle.disk_geometry.specs.Geometry.{block_bytes_of}
use Rattle.disk_geometry.specs.declared.Geometry.{Geometry}

-- what a column of these rows has for the geometry's block size, 0 for another size
abbrev column : ℕ → ℕ → ℕ → Geometry → ℕ
column one two four g =
    cond (eqb (block_bytes_of g) 1024) one
    (cond (eqb (block_bytes_of g) 2048) two
    (cond (eqb (block_bytes_of g) 4096) four
    0))

unfoldable pub bsh : Geometry → ℕ
bsh = column 3 4 5

unfoldable pub blm : Geometry → ℕ
blm = column 7 15 31
