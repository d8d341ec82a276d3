-- The two records are compared, and the line is that of the second.
use Rattle.replay_transcript.proofs.RecordLaws.{same_not, same_so}
use Rattle.replay_transcript.specs.Records.{record_line}
use Rattle.text.proofs.WriterLaws.{none}
use Rattle.replay_transcript.proofs.records.put_record.Goals as goal

pub returns-then-ne : goal.returns-then-ne
unfolding record_line
returns-then-ne c =
    rw (← c.record-was.ensures, ← c.record-is.ensures, same_not c.record-was.result.now c.record-is.result.now c.ne.ensures c.if-ne.true) c.put_changed.ensures

pub returns-else-ne : goal.returns-else-ne
unfolding record_line
returns-else-ne c =
    rw (← c.record-was.ensures, ← c.record-is.ensures, same_so c.record-was.result.now c.record-is.result.now c.ne.ensures c.if-ne.false) (none _)
