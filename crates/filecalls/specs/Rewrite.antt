-- A record read and written again with its first two bytes changed, by one search of the directory: a random write of the bytes
-- that a random read of the same control block leaves in a buffer of zeros, but for these two. No buffer is lent, so 35 is not
-- answered. The desk rewrites a siglum by it (request (x)).
use Rattle.std.specs.Prelude.{List, ℕ, replicate}
use Rattle.disk_geometry.specs.Geometry.{record_bytes}
use Rattle.call_write.specs.Rewrite.{with_first_two}
use Rattle.filecalls.specs.declared.Drive.{Drive}
use Rattle.filecalls.specs.Leaves.{read_random_leaves}

-- the bytes that are written
unfoldable pub rewritten_bytes : Drive → List ℕ → List ℕ → ℕ → ℕ → List ℕ
rewritten_bytes d v fcb low high = with_first_two low high (read_random_leaves d v fcb (replicate record_bytes 0)).buffer
