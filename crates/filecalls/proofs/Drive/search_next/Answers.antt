-- The call is done by the front.
use Rattle.filecalls.proofs.JoinLaws.{joined_left}
use Rattle.filecalls.specs.Leaves.{search_next_leaves}
use Rattle.filecalls.specs.declared.Drive.{Drive}
use Rattle.filecalls.proofs.Drive.search_next.Goals as goal

pub returns : goal.returns
returns c =
    let a = c.args in
    joined_left a.self c.joined.ensures c.front.ensures (λ (d : Drive). search_next_leaves d a.volume.now a.buffer.now) (c.search_next.ensures a.self.held)
