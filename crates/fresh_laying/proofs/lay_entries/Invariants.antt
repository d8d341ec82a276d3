-- The entries passed so far are laid.
use lib.ListN.{length}
use Rattle.fresh_laying.proofs.KeptLaws.{LaidTo}
use Rattle.fresh_laying.proofs.lay_entries.Given as goal

abbrev pub invariant-loop-k : goal.invariant-loop-k
invariant-loop-k l = LaidTo l.g l.first (length l.kept) l.initial.second l.second l.next l.k
