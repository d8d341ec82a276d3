use Rattle.desk_contents.specs.Contents.{differs}
use Rattle.lists.proofs.BoundedLaws.{Passed}
use Rattle.desk_contents.proofs.are_others.Given as goal

-- Each place passed so far is used and for another chapter, so what is still to be asked gives the whole.

abbrev pub invariant-loop-j : goal.invariant-loop-j
invariant-loop-j l = Passed (differs l.s l.chapter) 0 l.i l.j
