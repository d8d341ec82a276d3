-- The first byte may decide; else what was gathered of the bytes passed so far, with what is left.
use Rattle.disk_volume.proofs.NameLaws.{printable_at, plain_at, Gathered}
use Rattle.disk_volume.proofs.names.good_name.Given as goal

abbrev pub invariant-loop-k : goal.invariant-loop-k
invariant-loop-k l = Gathered (printable_at l.name) 11 l.printable l.k × Gathered (plain_at l.name) 11 l.plain l.k
