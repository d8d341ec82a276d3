-- The records passed had their stores, so what is still to be stored with what is left gives the whole.
use borrow.Author.Rules.{rules}
use Rattle.disk_stores.proofs.CodeLaws.{filled_start, filled_next, filled_end}
use Rattle.call_store.proofs.data.fill_block.Goals as goal

pub loop-k-init : goal.loop-k-init
loop-k-init c = filled_start

pub loop-k-preserved : goal.loop-k-preserved
loop-k-preserved c =
    let o = c.fill_record in
    filled_next c.loop-k.invariant (search rules) o.ensures.volume_after o.ensures.left_after

pub returns : goal.returns
returns c = let o = filled_end c.loop-k.invariant (search rules) in record { volume_after = o.0; left_after = o.1 }
