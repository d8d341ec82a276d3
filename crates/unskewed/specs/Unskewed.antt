-- Request (i): "Every call answers on such an image as on the unskewed volume." The unskewed volume has the same B, T and D, and
-- its logical records one behind the other.
use Rattle.std.specs.Prelude.{List, [], ◌++◌, ℕ, zero, suc, ◌*◌}
use Rattle.lists.specs.Bytes.{part}
use Rattle.disk_geometry.specs.declared.Geometry.{Geometry}
use Rattle.disk_geometry.specs.Geometry.{record_bytes, straight, with_placing, blocks, records, start}

abbrev pub straightened : Geometry → Geometry
straightened g = with_placing g straight

-- k logical records from record q on
unfoldable pub logical_from : Geometry → List ℕ → ℕ → ℕ → List ℕ
logical_from g v q zero = []
logical_from g v q (suc k) = part v (start g q) record_bytes ++ logical_from g v (suc q) k

-- those of its T blocks
unfoldable pub unskewed : Geometry → List ℕ → List ℕ
unfolding logical_from
unskewed g v = logical_from g v 0 (blocks g * records g)
