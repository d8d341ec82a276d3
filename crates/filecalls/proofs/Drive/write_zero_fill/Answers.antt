-- The front does the call, with stores enough.
use Rattle.filecalls.proofs.EnoughLaws.{direct_enough}
use Rattle.filecalls.proofs.JoinLaws.{joined_whole}
use Rattle.filecalls.specs.Write.{write_direct_act, write_zero_fill_act}
use Rattle.filecalls.specs.declared.Drive.{Drive}
use mathlib.Core.Bool.{true}
use Rattle.filecalls.proofs.Drive.write_zero_fill.Goals as goal

pub returns : goal.returns
unfolding write_zero_fill_act
returns c =
    let a = c.args in
    joined_whole a.self c.joined.ensures c.front.ensures a.volume.now a.fcb.now a.buffer.now (λ (d : Drive). write_direct_act true d a.volume.now a.fcb.now a.buffer.now) (direct_enough true a.self a.volume.now a.fcb.now a.buffer.now) c.write_direct_most-reply.ensures
