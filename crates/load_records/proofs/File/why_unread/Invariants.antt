-- No record passed so far is refused, so what is still to be asked gives the whole.
use Rattle.load_records.proofs.ReadLaws.{FirstSoFar}
use Rattle.load_records.specs.Records.{unread}
use Rattle.load_records.specs.CodeReading.{bare}
use Rattle.load_records.proofs.File.why_unread.Given as goal

abbrev pub invariant-loop-n : goal.invariant-loop-n
invariant-loop-n l = FirstSoFar (unread (bare l.self.front) l.self.volume.now l.self.fcb.now) l.records l.n
