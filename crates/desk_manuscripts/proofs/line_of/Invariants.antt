-- No line passed so far has the siglum, so what is still to be searched gives the whole.
use Rattle.desk_manuscripts.specs.Manuscript.{line_is}
use Rattle.lists.proofs.BoundedLaws.{Searched}
use lib.ListN.{length}
use Prim.Native.Nat.{◌/◌}
use Rattle.desk_manuscripts.proofs.line_of.Given as goal

abbrev pub invariant-loop-i : goal.invariant-loop-i
invariant-loop-i l = Searched (line_is l.list l.siglum) 0 (length l.list / 32) l.i
