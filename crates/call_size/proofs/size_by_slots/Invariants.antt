-- No entry below the first is the file's; the entries seen from there on gave m, so what is left to be seen gives the size.
use Rattle.call_size.specs.Size.{larger}
use Rattle.disk_geometry.specs.Geometry.{slots}
use Rattle.disk_volume.specs.Name.{strip}
use Rattle.lists.proofs.FoldLaws.{Folded}
use Prim.Native.Nat.{◌<◌}
use Rattle.call_size.proofs.size_by_slots.Given as goal

abbrev pub invariant-loop-i : goal.invariant-loop-i
invariant-loop-i l = (l.m < 2000000) × Folded (larger l.g l.volume l.user (strip l.name)) 0 (slots l.g) l.m l.i
