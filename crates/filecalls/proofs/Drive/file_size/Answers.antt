-- The call is done by the front.
use Rattle.filecalls.proofs.JoinLaws.{joined_left}
use Rattle.filecalls.specs.Leaves.{size_leaves}
use Rattle.filecalls.specs.declared.Drive.{Drive}
use Rattle.filecalls.proofs.Drive.file_size.Goals as goal

pub returns : goal.returns
returns c =
    let a = c.args in
    joined_left a.self c.joined.ensures c.front.ensures (λ (d : Drive). size_leaves d a.volume.now a.fcb.now) (c.file_size.ensures a.self.held)
