-- The entries seen so far gave m, so what is left to be seen gives the whole.
use Prim.Native.Nat.{◌≤◌, ◌*◌}
use Rattle.files.specs.Files.{more_blocks}
use Rattle.disk_geometry.specs.Geometry.{slots}
use Rattle.disk_volume.specs.Name.{strip}
use Rattle.lists.proofs.FoldLaws.{Folded}
use Rattle.files.proofs.blocks_held.blocks_of.Given as goal

abbrev pub invariant-loop-i : goal.invariant-loop-i
invariant-loop-i l = (l.m ≤ 16 * l.i) × Folded (more_blocks l.g l.volume l.user (strip l.name)) 0 (slots l.g) l.m l.i
