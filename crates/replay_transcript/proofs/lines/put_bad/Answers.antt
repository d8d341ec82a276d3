-- The word is the definition's.
use Rattle.replay_transcript.specs.Lines.{bad_line}
use Rattle.replay_transcript.proofs.lines.put_bad.Goals as goal

pub returns : goal.returns
unfolding bad_line
returns c = c.put_counted.ensures
