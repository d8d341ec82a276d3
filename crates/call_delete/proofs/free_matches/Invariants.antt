-- No slot below the first match is one; the slots passed from there on are freed, so what is still to be freed gives the whole.
use Rattle.lists.proofs.FoldLaws.{Folded}
use mathlib.Core.Path.{◌≡◌}
use Prim.Native.Nat.{◌-◌, ◌≤◌}
use lib.ListN.{length}
use Rattle.disk_volume.specs.Name.{strip}
use Rattle.disk_geometry.specs.Geometry.{slots}
use Rattle.disk_held.specs.Held.{held_words}
use Rattle.call_delete.specs.Delete.{free_slot}
use Rattle.call_delete.proofs.free_matches.Given as goal

abbrev pub invariant-loop-i : goal.invariant-loop-i
invariant-loop-i l = (l.i ≤ slots l.g) × ((length l.held ≡ held_words) × Folded (free_slot l.g l.volume l.user (strip l.pattern)) l.initial.held (slots l.g) l.held l.i)

abbrev pub decreases-loop-i : goal.decreases-loop-i
decreases-loop-i l = l.slots - l.i
