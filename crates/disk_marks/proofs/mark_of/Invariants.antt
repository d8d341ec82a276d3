-- The mark so far is what the bytes passed so far make of it.
use Prim.Native.Nat.{◌<◌}
use Rattle.lists.proofs.FoldLaws.{Folded}
use Rattle.disk_volume.specs.Name.{strip}
use Rattle.disk_marks.specs.CodeMarks.{first_mark, next_mark}
use Rattle.disk_marks.proofs.mark_of.Given as goal

abbrev pub invariant-loop-b : goal.invariant-loop-b
invariant-loop-b l = (l.mark < 65536) × Folded (next_mark (strip l.name)) (first_mark l.user l.k) 11 l.mark l.b-index
