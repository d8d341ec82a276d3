-- A block from D to T-1, as numbers and as the test of it.
use mathlib.Core.Path.{◌≡◌, refl}
use mathlib.Core.Bool.{Bool, true, false, ◌&&◌, false≢true}
use Prim.Native.Nat.{ℕ, ◌≤◌, ◌<◌}
use native.Mathlib.Omega.{arith}
use lib.Dec.{leb, ltb}
use borrow.Author.Tests.{lt-ltb, ltb-true, leb-true, le-leb}
use Rattle.disk_geometry.specs.Geometry.{most_blocks, lawful, inside}
use Rattle.disk_geometry.specs.declared.Geometry.{Geometry}
use Rattle.disk_geometry.proofs.GeometryLaws.{bounds}

pub inside_is : (g : Geometry) (b : ℕ) → inside g b ≡ true → (g.directory_blocks ≤ b) × (b < g.blocks)
unfolding inside
inside_is g b e = go (leb g.directory_blocks b) refl e
  where
    go : (t : Bool) → leb g.directory_blocks b ≡ t → t && ltb b g.blocks ≡ true → (g.directory_blocks ≤ b) × (b < g.blocks)
    go true q f = (leb-true g.directory_blocks b q, ltb-true b g.blocks f)
    go false q f = absurd (false≢true f)

pub is_inside : (g : Geometry) (b : ℕ) → g.directory_blocks ≤ b → b < g.blocks → inside g b ≡ true
unfolding inside
is_inside g b low high = rw (le-leb g.directory_blocks b low, lt-ltb b g.blocks high)

-- so it is one of the blocks that a state has a bit for
pub inside_low : (g : Geometry) → lawful g ≡ true → (b : ℕ) → inside g b ≡ true → b < most_blocks
inside_low g law b e = omega (arith, inside_is g b e, (bounds g law).blocks_high)
