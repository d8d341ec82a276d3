-- What is still to be written from piece i on with the stores that are left gives the whole; a refused write ends it.
use Rattle.several.proofs.SinglesCutLaws.{CutLeft}
use Rattle.filecalls.specs.CodeFront.{joined}
use Rattle.several.proofs.write_pieces.Given as goal

abbrev pub invariant-loop-i : goal.invariant-loop-i
invariant-loop-i l =
    CutLeft l.k (joined l.initial.d l.initial.held) l.initial.volume l.initial.fcb l.buffer l.initial.left (joined l.d l.held) l.volume l.fcb l.left l.i
