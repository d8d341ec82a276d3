-- What is still to be read from piece i on gives the whole; a refused read ends it.
use Prim.Native.Nat.{ℕ}
use Rattle.filecalls.specs.Leaves.{read_sequential_leaves}
use Rattle.several.specs.Several.{singles}
use Rattle.several.proofs.PieceLaws.{Left}
use mathlib.Core.List.{List}
use Rattle.filecalls.specs.CodeFront.{joined}
use Rattle.several.proofs.read_pieces.Given as goal

abbrev pub invariant-loop-i : goal.invariant-loop-i
invariant-loop-i l =
    (held : List ℕ) → Left read_sequential_leaves (singles read_sequential_leaves 0 l.k (joined l.initial.d held) l.volume l.initial.fcb l.initial.buffer) l.k (joined l.d held) l.volume l.fcb l.buffer l.i
