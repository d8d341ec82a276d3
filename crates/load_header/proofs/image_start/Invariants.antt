-- The lengths of the groups passed so far.
use Rattle.load_header.specs.Header.{image_start}
use Prim.Native.Nat.{◌≤◌, ◌*◌}
use mathlib.Core.Path.{◌≡◌}
use Rattle.load_header.proofs.image_start.Given as goal

abbrev pub invariant-loop-i : goal.invariant-loop-i
invariant-loop-i l = (l.sum ≡ image_start l.h l.i) × (l.sum ≤ 65536 * l.i)
