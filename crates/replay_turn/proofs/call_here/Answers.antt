-- The control block is a copy of the script's bytes, and the buffer stands in the script itself.
use Rattle.replay_turn.proofs.PlayLaws.{lent_here}
use Rattle.text.specs.Writer.{written}
use Rattle.lists.specs.Bytes.{put}
use native.Mathlib.Omega.{arith}
use Prim.Native.Nat.{◌+◌, ◌-◌}
use Rattle.replay_turn.proofs.call_here.Goals as goal

pub returns-clause-after : goal.returns-clause-after
unfolding put
returns-clause-after c =
    let a = c.args in
    let at = 3 + a.head.fcb + 2 in
    lent_here a.g a.head a.drive a.volume.now a.s.now (written a.w.now) at (at + a.head.buffer - at) c.copy_from_slice.ensures.after (omega arith) (omega arith) c.serve.ensures.after
