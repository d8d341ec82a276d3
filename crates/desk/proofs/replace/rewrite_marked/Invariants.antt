-- What is still to be rewritten from here with what is left gives the whole, and so does the count.
use Rattle.std.proofs.Common.{◌≤◌, ◌-◌}
use Rattle.filecalls.specs.CodeFront.{joined}
use Rattle.desk.specs.CodeDesk.{marked}
use Rattle.desk.proofs.LoopLaws.{Going}
use Rattle.desk.proofs.replace.rewrite_marked.Given as goal

abbrev pub invariant-loop-n : goal.invariant-loop-n
invariant-loop-n l = (l.count ≤ l.n - l.first)
    × Going (marked l.marks) (joined l.front l.held) l.fcb l.siglum l.initial.volume l.initial.left l.first l.k l.volume l.left l.count (l.n - l.first)
