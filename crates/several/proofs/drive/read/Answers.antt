-- The call is done by the front.
use Rattle.filecalls.proofs.JoinLaws.{joined_left}
use Rattle.filecalls.specs.Leaves.{read_sequential_leaves}
use Rattle.several.specs.Several.{several}
use Rattle.filecalls.specs.declared.Drive.{Drive}
use Rattle.several.proofs.drive.read.Goals as goal

pub returns : goal.returns
returns c =
    let a = c.args in
    joined_left a.state c.joined.ensures c.front.ensures (λ (d : Drive). several read_sequential_leaves d a.volume.now a.fcb.now a.buffer.now a.k) (c.read.ensures a.state.held)
