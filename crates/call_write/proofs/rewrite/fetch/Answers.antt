-- By the two ways of the test; the record is lent from where the definition has it.
use mathlib.Core.Bool.{not}
use mathlib.Core.Path.{◌≡◌, ap}
use Prim.Native.Nat.{◌+◌, ◌-◌}
use native.Mathlib.Omega.{arith}
use borrow.Author.Tests.{not-false}
use Rattle.lists.specs.Bytes.{part}
use Rattle.disk_volume.specs.Record.{record_at}
use Rattle.call_write.proofs.rewrite.fetch.Goals as goal

pub returns : goal.returns
unfolding record_at part
returns c =
    let k = c.is_counted in
    let at = c.record_start-at in
    let z : at.result + 128 - at.result ≡ 128 = omega arith in
    rw (← k.ensures, not-false k.result (ap not c.if-not-is_counted.false), ← at.ensures.0) (rw z at c.copy_from_slice.ensures.after)
