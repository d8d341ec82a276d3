-- The words below k are read, the others are still zero.
use mathlib.Core.Path.{◌≡◌}
use Rattle.drive_bytes.specs.Layout.{held_at}
use Rattle.drive_bytes.proofs.load.words.Given as goal

abbrev pub invariant-loop-k : goal.invariant-loop-k
invariant-loop-k l = l.held ≡ held_at l.s l.k
