-- The front does the call, with stores enough.
use Rattle.filecalls.proofs.EnoughLaws.{rename_enough}
use Rattle.filecalls.proofs.JoinLaws.{joined_whole}
use Rattle.filecalls.specs.Names.{rename_act}
use Rattle.filecalls.specs.declared.Drive.{Drive}
use mathlib.Core.List.{[]}
use Rattle.filecalls.proofs.Drive.rename.Goals as goal

pub returns : goal.returns
returns c =
    let a = c.args in
    joined_whole a.self c.joined.ensures c.front.ensures a.volume.now a.fcb.now [] (λ (d : Drive). rename_act d a.volume.now a.fcb.now) (rename_enough a.self a.volume.now a.fcb.now) (c.rename_most.ensures a.self.held)
