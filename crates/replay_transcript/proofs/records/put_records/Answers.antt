-- The lines of the records passed so far were appended.
use mathlib.Core.Path.{◌≡◌}
use Prim.Native.Nat.{◌-◌, min}
use native.Mathlib.Omega.{arith}
use Rattle.replay_transcript.proofs.RecordLaws.{next_record}
use Rattle.replay_transcript.specs.Records.{record_lines}
use Rattle.text.proofs.WriterLaws.{none, then}
use Rattle.replay_transcript.proofs.records.put_records.Goals as goal

pub loop-q-init : goal.loop-q-init
unfolding record_lines
loop-q-init c =
    let z : min c.args.from c.args.to - c.args.from ≡ 0 = omega arith in
    rw z (none _)

pub loop-q-preserved : goal.loop-q-preserved
loop-q-preserved c =
    let a = c.args in
    rw (next_record a.given.now a.volume.now a.from c.loop-q.q a.to (omega arith) (omega arith)) (then c.loop-q.invariant c.put_record.ensures)

pub returns : goal.returns
returns c =
    let z : min c.loop-q.q c.args.to ≡ c.args.to = omega arith in
    rw z at c.loop-q.invariant
