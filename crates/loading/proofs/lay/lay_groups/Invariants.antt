-- What is still to be laid gives the whole.
use Rattle.lists.proofs.FoldLaws.{Folded}
use Rattle.loading.specs.Laid.{group_laid}
use Rattle.load_records.specs.Records.{image}
use Rattle.load_records.specs.CodeReading.{bare}
use lib.ListN.{length}
use Rattle.loading.proofs.lay.lay_groups.Given as goal

abbrev pub invariant-loop-i : goal.invariant-loop-i
invariant-loop-i l = Folded (group_laid l.h l.granted (image (bare l.front) l.volume l.fcb)) l.initial.memory (length l.granted) l.memory l.i
