use Rattle.desk_contents.specs.Contents.{total}
use Prim.Native.Nat.{◌≤◌, ◌*◌}
use mathlib.Core.Path.{◌≡◌}
use Rattle.desk_contents.proofs.listed.Given as goal

-- The records that the places passed so far list.

abbrev pub invariant-loop-i : goal.invariant-loop-i
invariant-loop-i l = (l.sum ≡ total l.s l.i) × (l.sum ≤ 65536 * l.i)
