-- `disk_held::lowest_free` meets its contract. The loop has what the search still has to do from b on; every block of a full
-- word is held, so the search may go on behind it.
use Prim.Native.Nat.{◌-◌, ◌≤◌}
use Rattle.lists.proofs.BoundedLaws.{Searched}
use Rattle.disk_held.specs.Held.{is_free}
use Rattle.disk_held.proofs.lowest_free.Given as goal

abbrev pub invariant-loop-b : goal.invariant-loop-b
invariant-loop-b l = (l.b ≤ l.t) × Searched (is_free l.held) l.d l.t l.b

abbrev pub decreases-loop-b : goal.decreases-loop-b
decreases-loop-b l = l.t - l.b
