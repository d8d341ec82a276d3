-- The sign, and behind `=` the bytes.
use Rattle.replay_transcript.specs.Lines.{shown}
use Rattle.text.proofs.WriterLaws.{then}
use Rattle.replay_transcript.proofs.lines.put_shown.Goals as goal

pub returns-then-not-lent : goal.returns-then-not-lent
unfolding shown
returns-then-not-lent c = rw (c.if-not-lent.true) c.byte.ensures

pub returns : goal.returns
unfolding shown
returns c = rw (c.if-not-lent.false) (then c.byte-2.ensures c.put_hex.ensures)
