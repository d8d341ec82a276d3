-- No slot that was passed has an entry of the file; the walk goes up, so it ends.
use Rattle.disk_volume.specs.Name.{strip}
use Rattle.shelf_files.proofs.WalkLaws.{Walk, behind}
use Rattle.shelf_files.proofs.Tree.follow.Given as goal

abbrev pub invariant-loop-s : goal.invariant-loop-s
invariant-loop-s l = Walk l.g l.volume l.user (strip l.name) l.i l.s l.rest l.last l.bit

abbrev pub decreases-loop-s : goal.decreases-loop-s
decreases-loop-s l = behind l.i l.s
