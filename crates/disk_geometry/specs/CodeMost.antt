-- The most blocks that a block size allows, as code asks it: 256 where numbers of two bytes are not allowed, else 8 MiB in blocks;
-- 0 for a size that is none. Not for the reader of the paper.
use Rattle.std.specs.Prelude.{cond, ℕ, eqb}
use Rattle.disk_geometry.specs.Geometry.{block_bytes_of, narrow_blocks, most_blocks}
use Rattle.disk_geometry.specs.declared.Geometry.{Geometry}

abbrev pub most_of : Geometry → ℕ
most_of g =
    cond (eqb (block_bytes_of g) 1024) narrow_blocks
    (cond (eqb (block_bytes_of g) 2048) most_blocks
    (cond (eqb (block_bytes_of g) 4096) 2048
    0))
