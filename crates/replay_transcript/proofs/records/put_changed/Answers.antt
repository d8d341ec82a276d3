-- The word, the number, the bytes and the line feed, one after the other.
use Rattle.text.proofs.WriterLaws.{then}
use Rattle.replay_transcript.proofs.records.put_changed.Goals as goal

pub returns : goal.returns
returns c = then (then (then (then c.bytes.ensures c.decimal.ensures) c.byte.ensures) c.put_hex.ensures) c.byte-2.ensures
