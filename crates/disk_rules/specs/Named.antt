-- "The held blocks, which log-in alone works out from the directory": those from D to T-1 that an entry names.
use Rattle.std.specs.Prelude.{Bool, ◌&&◌, List, ℕ}
use Rattle.disk_geometry.specs.declared.Geometry.{Geometry}
use Rattle.disk_geometry.specs.Geometry.{blocks, directory_blocks_of, slots, inside}
use Rattle.disk_held.specs.Held.{words_of, free_count}
use Rattle.disk_rules.specs.GoodSlot.{named_below}

unfoldable pub named : Geometry → List ℕ → ℕ → Bool
named g v b = inside g b && named_below g v (slots g) b

-- as the words of a state
unfoldable pub held_of : Geometry → List ℕ → List ℕ
held_of g v = words_of (named g v)

-- "the number of free blocks"
abbrev pub free_of : Geometry → List ℕ → ℕ
free_of g v = free_count (held_of g v) (directory_blocks_of g) (blocks g)
