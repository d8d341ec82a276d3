-- The stores leave the volume, and setting to record n leaves the control block, as each of them says.
use borrow.Author.Rules.{rules}
use Rattle.call_store.proofs.carry_out.Goals as goal

pub returns : goal.returns
returns c =
    record {
      volume_after = c.store_most.ensures.volume_after;
      fcb_after = search rules;
      left_after = c.store_most.ensures.left_after;
    }
