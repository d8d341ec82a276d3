-- None of the slots passed so far has the mark for the file, so what is still to be asked gives the whole.
use Rattle.files.specs.Files.{marked_at}
use Rattle.disk_volume.specs.Name.{strip}
use Rattle.disk_geometry.specs.Geometry.{slots}
use Rattle.lists.proofs.AnyLaws.{AnySoFar}
use Rattle.files.proofs.is_marked.Given as goal

abbrev pub invariant-loop-i : goal.invariant-loop-i
invariant-loop-i l = AnySoFar (marked_at l.g l.volume l.user (strip l.name) l.k) (slots l.g) l.i
