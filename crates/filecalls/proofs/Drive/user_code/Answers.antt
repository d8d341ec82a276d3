-- The call is done by the front.
use Rattle.filecalls.proofs.JoinLaws.{joined_left}
use Rattle.filecalls.specs.Leaves.{user_leaves}
use Rattle.filecalls.specs.declared.Drive.{Drive}
use Rattle.filecalls.proofs.Drive.user_code.Goals as goal

pub returns : goal.returns
returns c =
    let a = c.args in
    joined_left a.self c.joined.ensures c.front.ensures (λ (d : Drive). user_leaves d a.code) (c.user_code.ensures a.self.held)
