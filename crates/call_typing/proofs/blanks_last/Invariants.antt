-- No blank passed so far stands just before a non-blank, so what is left decides.
use lib.ListN.{length}
use Rattle.lists.proofs.BoundedLaws.{Passed}
use Rattle.call_typing.proofs.TypingLaws.{last_at}
use Rattle.call_typing.proofs.blanks_last.Given as goal

abbrev pub invariant-loop-k : goal.invariant-loop-k
invariant-loop-k l = Passed (last_at l.field) 1 (length l.field) l.k
