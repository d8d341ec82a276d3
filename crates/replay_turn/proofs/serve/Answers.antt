-- The line shows what the call has left.
use Rattle.replay_turn.specs.Play.{shown_as, called}
use Rattle.text.specs.Writer.{written}
use mathlib.Core.Path.{ap}
use Rattle.replay_turn.proofs.serve.Goals as goal

pub returns-clause-after : goal.returns-clause-after
unfolding called
returns-clause-after c =
    let a = c.args in
    rw c.put_call.ensures.text_is (ap (shown_as a.head.function (written a.w.now)) c.play-r.ensures)
