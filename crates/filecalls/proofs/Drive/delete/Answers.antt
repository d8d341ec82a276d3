-- The front does the call, with stores enough.
use Rattle.filecalls.proofs.EnoughLaws.{delete_enough}
use Rattle.filecalls.proofs.JoinLaws.{joined_whole}
use Rattle.filecalls.specs.Names.{delete_act}
use Rattle.filecalls.specs.declared.Drive.{Drive}
use mathlib.Core.List.{[]}
use Rattle.filecalls.proofs.Drive.delete.Goals as goal

pub returns : goal.returns
returns c =
    let a = c.args in
    joined_whole a.self c.joined.ensures c.front.ensures a.volume.now a.fcb.now [] (λ (d : Drive). delete_act d a.volume.now a.fcb.now) (delete_enough a.self a.volume.now a.fcb.now) c.delete_most-reply.ensures
