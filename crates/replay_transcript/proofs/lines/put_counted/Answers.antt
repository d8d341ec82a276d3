-- The word, the number and the line feed, one after the other.
use Rattle.text.proofs.WriterLaws.{then}
use Rattle.replay_transcript.proofs.lines.put_counted.Goals as goal

pub returns : goal.returns
returns c = then (then c.bytes.ensures c.decimal.ensures) c.byte.ensures
