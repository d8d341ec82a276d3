-- The search among the regions from place i on, below what was met so far, gives the whole.
use Rattle.memory_spans.specs.Room.{taken}
use Rattle.lists.specs.Bounded.{low_from}
use lib.ListN.{drop}
use Prim.Native.Nat.{◌≤◌, ◌-◌}
use mathlib.Core.Path.{◌≡◌}
use Rattle.memory_spans.proofs.first_taken.Given as goal

abbrev pub invariant-loop-region : goal.invariant-loop-region
invariant-loop-region l = record {
  from : l.start ≤ l.to;
  below : l.to ≤ l.stop;
  whole : low_from (taken (drop l.region-index l.regions)) l.start (l.to - l.start) ≡ low_from (taken l.regions) l.start (l.stop - l.start);
}
