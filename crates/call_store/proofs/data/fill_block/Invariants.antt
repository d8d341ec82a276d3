-- The records passed had their stores, so what is still to be stored with what is left gives the whole.
use Rattle.disk_stores.proofs.CodeLaws.{CutFilled}
use Rattle.call_store.proofs.data.fill_block.Given as goal

abbrev pub invariant-loop-k : goal.invariant-loop-k
invariant-loop-k l = CutFilled l.g l.block l.n l.buffer l.initial.volume l.initial.left l.volume l.left l.k
