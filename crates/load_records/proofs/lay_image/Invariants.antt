-- The bytes up to the present place are laid, a record or what is wanted of it at a time.
use Rattle.load_records.specs.Records.{image}
use Rattle.load_records.specs.CodeReading.{bare}
use Rattle.lists.specs.Bytes.{part}
use lib.ListN.{length, take}
use Prim.Native.Nat.{◌≤◌, ◌-◌}
use mathlib.Core.Path.{◌≡◌}
use Rattle.load_records.proofs.lay_image.Given as goal

abbrev pub invariant-loop-at : goal.invariant-loop-at
invariant-loop-at l = (l.at ≤ length l.out) × (take l.at l.out ≡ part (image (bare l.fn.front) l.volume l.fcb) l.from l.at)

abbrev pub decreases-loop-at : goal.decreases-loop-at
decreases-loop-at l = length l.out - l.at
