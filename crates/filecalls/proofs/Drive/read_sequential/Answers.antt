-- The call is done by the front.
use Rattle.filecalls.proofs.JoinLaws.{joined_left}
use Rattle.filecalls.specs.Leaves.{read_sequential_leaves}
use Rattle.filecalls.specs.declared.Drive.{Drive}
use Rattle.filecalls.proofs.Drive.read_sequential.Goals as goal

pub returns : goal.returns
returns c =
    let a = c.args in
    joined_left a.self c.joined.ensures c.front.ensures (λ (d : Drive). read_sequential_leaves d a.volume.now a.fcb.now a.buffer.now) (c.read_sequential.ensures a.self.held)
