-- The loop stands at an entry of the file; those seen so far gave m, and no other below it is the file's.
use mathlib.Core.Path.{◌≡◌}
use mathlib.Core.Bool.{true}
use Prim.Native.Nat.{◌≤◌, ◌<◌, ◌-◌}
use Rattle.lists.proofs.FoldLaws.{Folded}
use Rattle.disk_geometry.specs.Geometry.{slots}
use Rattle.disk_volume.specs.declared.Wanted.TheVariants.{File}
use Rattle.disk_volume.specs.Directory.{slot_fits}
use Rattle.disk_volume.specs.Name.{strip}
use Rattle.call_size.specs.Size.{larger}
use Rattle.call_size.proofs.size_by_entries.Given as goal

abbrev pub invariant-loop-i : goal.invariant-loop-i
invariant-loop-i l =
    ((l.i ≤ slots l.g) × (l.i < slots l.g → slot_fits l.g l.volume l.user (strip l.name) File l.i ≡ true))
    × ((l.m < 2000000) × Folded (larger l.g l.volume l.user (strip l.name)) 0 (slots l.g) l.m l.i)

abbrev pub decreases-loop-i : goal.decreases-loop-i
decreases-loop-i l = l.n - l.i
