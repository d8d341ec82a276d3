-- The record and the entry are lent from where the definitions have them.
use mathlib.Core.Path.{◌≡◌}
use Prim.Native.Nat.{◌+◌, ◌-◌}
use native.Mathlib.Omega.{arith}
use Rattle.lists.specs.Bytes.{part}
use Rattle.disk_volume.specs.Record.{record_at}
use Rattle.disk_volume.proofs.EntryLaws.{lent_slot}
use Rattle.call_read.proofs.read.act.Goals as goal

pub returns : goal.returns
unfolding record_at part
returns c =
    let a = c.args in
    let at = c.record_start-at in
    let from = c.slot_start-from in
    let z : at.result + 128 - at.result ≡ 128 = omega arith in record { fcb_after = rw (← lent_slot a.g a.volume.now a.slot from.result from.ensures.0) c.set_to.ensures; buffer_after = rw (← at.ensures.0) (rw z at c.copy_from_slice.ensures.after) }
