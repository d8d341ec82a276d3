-- The word is the definition's.
use Rattle.replay_transcript.specs.Lines.{end_line}
use Rattle.replay_transcript.proofs.lines.put_end.Goals as goal

pub returns : goal.returns
unfolding end_line
returns c = c.put_counted.ensures
