use Rattle.desk_contents.specs.Contents.{has_chapter}
use Rattle.lists.proofs.BoundedLaws.{Searched}
use Rattle.desk_contents.proofs.place_of.Given as goal

-- No place passed so far has the chapter, so what is still to be searched gives the whole.

abbrev pub invariant-loop-i : goal.invariant-loop-i
invariant-loop-i l = Searched (has_chapter l.s l.chapter) 0 16 l.i
