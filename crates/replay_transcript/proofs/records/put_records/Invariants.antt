-- The lines of the records passed so far were appended.
use Rattle.replay_transcript.specs.Records.{record_lines}
use Rattle.text.specs.Writer.{Appends}
use Prim.Native.Nat.{◌-◌, min}
use Rattle.replay_transcript.proofs.records.put_records.Given as goal

abbrev pub invariant-loop-q : goal.invariant-loop-q
invariant-loop-q l = Appends l.initial.w (record_lines l.given l.volume l.from (min l.q l.to - l.from)) l.w
