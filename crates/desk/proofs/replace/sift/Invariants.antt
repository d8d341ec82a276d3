-- The records passed so far can be read and are marked as they match.
use Rattle.desk.proofs.LoopLaws.{Marks}
use Rattle.desk.specs.Records.{readable, bears}
use Rattle.lists.proofs.BoundedLaws.{Passed}
use Rattle.std.proofs.Common.{List, ℕ, ◌+◌}
use Rattle.filecalls.specs.CodeFront.{joined}
use Rattle.desk.proofs.replace.sift.Given as goal

abbrev pub invariant-loop-n : goal.invariant-loop-n
invariant-loop-n l = (held : List ℕ)
    → Passed (readable (joined l.front held) l.volume l.fcb) 1 (l.k + 1) l.n × Marks (bears (joined l.front held) l.volume l.fcb l.siglum) l.marks l.n
