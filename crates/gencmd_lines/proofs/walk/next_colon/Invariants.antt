-- A search: what is still to be looked at gives the whole.
use Rattle.gencmd_lines.specs.CodeWalk.{is_colon}
use Rattle.lists.proofs.BoundedLaws.{Searched}
use Rattle.std.proofs.Common.{◌≤◌, max, length}
use Rattle.gencmd_lines.proofs.walk.next_colon.Given as goal

abbrev pub invariant-loop-i : goal.invariant-loop-i
invariant-loop-i l = (l.i ≤ max l.from (length l.text)) × Searched (is_colon l.text) l.from (length l.text) l.i
