-- The figures of the places passed so far are laid.
use Rattle.shelf_bytes.proofs.LayoutLaws.{LaidTo}
use Rattle.shelf_bytes.proofs.encode.Given as goal

abbrev pub invariant-loop-k : goal.invariant-loop-k
invariant-loop-k l = LaidTo l.x-items l.k l.out
