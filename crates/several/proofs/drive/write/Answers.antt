-- The front does the call, with stores enough.
use Rattle.several.proofs.SeveralCutLaws.{several_enough}
use Rattle.filecalls.proofs.JoinLaws.{joined_left}
use Rattle.filecalls.specs.CodeFront.{joined}
use Rattle.filecalls.specs.Leaves.{write_sequential_leaves}
use Rattle.several.specs.Several.{several}
use Rattle.filecalls.specs.declared.Drive.{Drive}
use Rattle.several.proofs.drive.write.Goals as goal

pub returns : goal.returns
returns c =
    let a = c.args in
    joined_left a.state c.joined.ensures c.front.ensures (λ (d : Drive). several write_sequential_leaves d a.volume.now a.fcb.now a.buffer.now a.k)
    (c.write_most-reply.ensures.whole (several_enough (joined c.front.result a.state.held) a.volume.now a.fcb.now a.buffer.now a.k))
