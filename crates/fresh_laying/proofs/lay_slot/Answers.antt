-- The bytes go where they begin.
use mathlib.Core.Path.{◌≡◌}
use Prim.Native.Nat.{◌+◌, ◌-◌}
use native.Mathlib.Omega.{arith}
use Rattle.lists.specs.Bytes.{put}
use Rattle.disk_volume.specs.Directory.{put_slot}
use Rattle.fresh_laying.proofs.lay_slot.Goals as goal

pub returns : goal.returns
unfolding put_slot put
returns c =
    let at = c.slot_start-at in
    let z : at.result + 32 - at.result ≡ 32 = omega arith in
    rw (c.copy_from_slice.ensures.after, z, at.ensures.0)
