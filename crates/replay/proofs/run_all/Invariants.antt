-- The unread part stays inside the window.
use lib.ListN.{length}
use Prim.Native.Nat.{◌≤◌}
use Rattle.replay.proofs.run_all.Given as goal

abbrev pub invariant-loop-calls : goal.invariant-loop-calls
invariant-loop-calls l = (l.run.unread.from ≤ l.run.unread.to) × (l.run.unread.to ≤ length l.window)
