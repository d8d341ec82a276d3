-- The pattern matched the places passed so far, so what is left decides.
use Rattle.lists.proofs.BoundedLaws.{Passed}
use Rattle.disk_volume.proofs.NameLaws.{like_at}
use Rattle.disk_volume.proofs.names.like_name.Given as goal

abbrev pub invariant-loop-k : goal.invariant-loop-k
invariant-loop-k l = Passed (like_at l.name l.pattern) 0 11 l.k
