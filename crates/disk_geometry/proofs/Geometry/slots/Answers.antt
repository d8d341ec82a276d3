-- A lawful directory has at most 2,048 slots: its blocks by the entries of a block.
use mathlib.Core.Path.{◌≡◌, refl}
use mathlib.Core.Logic.{◌⊎◌, inl, inr}
use Prim.Native.Nat.{ℕ, ◌*◌, ◌/◌}
use native.Mathlib.Omega.{arith}
use Rattle.disk_geometry.proofs.GeometryLaws.{bounds}
use Rattle.disk_geometry.proofs.Geometry.slots.Goals as goal

by_entries : (d b : ℕ) → (b ≡ 1024) ⊎ ((b ≡ 2048) ⊎ (b ≡ 4096)) → d * (b / 32) ≡ 4 * (d * (b / 128))
by_entries d b (inl e) = rw e (omega arith)
by_entries d b (inr (inl e)) = rw e (omega arith)
by_entries d b (inr (inr e)) = rw e (omega arith)

pub overflow_mul-result : goal.overflow_mul-result
overflow_mul-result c =
    let k = bounds _ c.requires in
    rw (by_entries _ _ k.block_sizes) (omega (arith, k))

pub returns : goal.returns
returns c =
    let k = bounds _ c.requires in
    rw (by_entries _ _ k.block_sizes) (refl, k.slots_high)
