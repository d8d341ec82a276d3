-- Both parts of the number are what the definition has, and it is small: a directory has at most 2,048 slots.
use mathlib.Core.Path.{ap₂}
use Prim.Native.Nat.{ℕ, ◌+◌, ◌*◌}
use native.Mathlib.Omega.{arith}
use Rattle.lists.specs.Bytes.{part}
use Rattle.disk_geometry.proofs.GeometryLaws.{bounds}
use Rattle.disk_volume.specs.Name.{name_at}
use Rattle.fresh_order.specs.CodeKeys.{file_extents, most_slots}
use Rattle.fresh_sorting.specs.CodeKept.{key_in}
use Rattle.fresh_sorting.proofs.key_of.Goals as goal

pub overflow_mul-result : goal.overflow_mul-result
overflow_mul-result c = omega (arith, c.find-file.ensures.1, (bounds c.args.g c.requires.volume_and.0).slots_high)

pub overflow_add-result : goal.overflow_add-result
overflow_add-result c = omega (arith, c.find-file.ensures.1, c.extent_of.ensures.1, (bounds c.args.g c.requires.volume_and.0).slots_high)

pub overflow_mul-result-2 : goal.overflow_mul-result-2
overflow_mul-result-2 c = omega (arith, c.find-file.ensures.1, c.extent_of.ensures.1, (bounds c.args.g c.requires.volume_and.0).slots_high)

pub overflow_add-result-2 : goal.overflow_add-result-2
overflow_add-result-2 c = omega (arith, c.find-file.ensures.1, c.extent_of.ensures.1, (bounds c.args.g c.requires.volume_and.0).slots_high)

pub returns : goal.returns
unfolding key_in name_at part
returns c =
    ap₂ (λ (file x : ℕ). (file * file_extents + x) * most_slots + c.args.i) c.find-file.ensures.0 c.extent_of.ensures.0
