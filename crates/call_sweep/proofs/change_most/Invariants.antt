-- The records that hold a meant entry are stored up to here as long as a store was left, so what is still to be done with what is
-- left gives the whole.
use mathlib.Core.Path.{◌≡◌}
use Prim.Native.Nat.{◌-◌, ◌≤◌}
use lib.ListN.{length}
use Rattle.disk_geometry.specs.Geometry.{bytes, slots}
use Rattle.disk_stores.proofs.LoopLaws.{Swept}
use Rattle.call_sweep.specs.CodeEdit.{edited, lent_meant}
use Rattle.call_sweep.proofs.change_most.Given as goal

abbrev pub invariant-loop-i : goal.invariant-loop-i
invariant-loop-i l =
    (l.i ≤ slots l.g) × ((length l.volume ≡ bytes l.g) × Swept l.g (lent_meant l.g l.edit l.user l.name) (edited l.edit l.new) l.initial.volume l.initial.left l.volume l.left l.i)

abbrev pub decreases-loop-i : goal.decreases-loop-i
decreases-loop-i l = l.slots - l.i
