-- The bytes go where they begin.
use mathlib.Core.Path.{◌≡◌}
use Prim.Native.Nat.{◌+◌, ◌-◌}
use native.Mathlib.Omega.{arith}
use Rattle.lists.specs.Bytes.{put}
use Rattle.disk_volume.specs.Record.{put_record}
use Rattle.fresh_laying.proofs.lay_record.Goals as goal

pub returns : goal.returns
unfolding put_record put
returns c =
    let at = c.record_start-at in
    let z : at.result + 128 - at.result ≡ 128 = omega arith in
    rw (c.copy_from_slice.ensures.after, z, at.ensures.0)
