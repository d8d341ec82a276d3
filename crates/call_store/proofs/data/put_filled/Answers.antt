-- The whole block, or the record alone.
use Rattle.disk_stores.specs.Stores.{record_stores}
use Rattle.call_store.proofs.data.put_filled.Goals as goal

pub returns : goal.returns
unfolding record_stores
returns c =
    record {
      volume_after = rw c.if-fills.false c.put_record.ensures.volume_after;
      left_after = rw c.if-fills.false c.put_record.ensures.left_after;
    }
