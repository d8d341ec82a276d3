-- The front does the call, with stores enough.
use Rattle.filecalls.proofs.EnoughLaws.{sequential_enough}
use Rattle.filecalls.proofs.JoinLaws.{joined_whole}
use Rattle.filecalls.specs.Write.{write_sequential_act}
use Rattle.filecalls.specs.declared.Drive.{Drive}
use Rattle.filecalls.proofs.Drive.write_sequential.Goals as goal

pub returns : goal.returns
returns c =
    let a = c.args in
    joined_whole a.self c.joined.ensures c.front.ensures a.volume.now a.fcb.now a.buffer.now (λ (d : Drive). write_sequential_act d a.volume.now a.fcb.now a.buffer.now) (sequential_enough a.self a.volume.now a.fcb.now a.buffer.now) c.write_sequential_most-reply.ensures
