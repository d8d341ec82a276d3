-- The part that is lent is the record.
use Rattle.replay_transcript.proofs.RecordLaws.{record_behind, record_there}
use native.Mathlib.Omega.{arith}
use Rattle.replay_transcript.proofs.records.record.Goals as goal

pub returns-then-s-q : goal.returns-then-s-q
returns-then-s-q c = record_behind c.args.s.now c.args.q c.if-s-q.true

pub returns : goal.returns
returns c = record_there c.args.s.now c.args.q c.min.result (omega arith) c.min.ensures
