-- The places seen so far and those still to be seen give the count.
use Prim.Native.Nat.{◌≤◌}
use Rattle.files.proofs.CountedLaws.{Counted}
use Rattle.files.specs.Files.{is_used}
use Rattle.disk_geometry.specs.Geometry.{places}
use Rattle.files.proofs.blocks_held.used_places.Given as goal

abbrev pub invariant-loop-p : goal.invariant-loop-p
invariant-loop-p l = (l.used ≤ l.p) × Counted (is_used l.g l.e) (places l.g) l.used l.p
