-- The read is lent the copy and a buffer of zeros.
use mathlib.Core.List.{List}
use Prim.Native.Nat.{ℕ}
use Rattle.filecalls.specs.CodeFront.{joined_reply}
use lib.ListN.{length}
use Rattle.record_reads.proofs.ShowLaws.{shows}
use borrow.Author.Rules.{rules}
use Rattle.record_reads.proofs.show.Goals as goal

pub returns : goal.returns
returns c = λ (held : List ℕ). shows _ _ _ _ (joined_reply c.read_random-reply.result held) {k = length c.args.buffer.now} c.point.ensures (c.fill.ensures.after (λ y e. e)) (search rules) (c.read_random-reply.ensures held) c.why_of.ensures
