-- The blocks passed so far are blank, so what is still to be laid gives the whole.
use Rattle.fresh_laying.specs.CodeLaying.{blank_block}
use Rattle.fresh_laying.proofs.FoldFrom.{FoldedFrom}
use Rattle.fresh_laying.proofs.blank_blocks.Given as goal

abbrev pub invariant-loop-i : goal.invariant-loop-i
invariant-loop-i l = FoldedFrom (blank_block l.g) l.initial.second l.b l.i-end l.second l.i
