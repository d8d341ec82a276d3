-- The places seen so far and those still to be seen give the count.
use Rattle.files.proofs.CountedLaws.{counted_next, counted_end}
use Rattle.files.specs.Files.{used_places}
use borrow.Author.Rules.{rules}
use Rattle.files.proofs.blocks_held.used_places.Goals as goal

pub loop-p-preserved : goal.loop-p-preserved
loop-p-preserved c = (search rules, counted_next c.loop-p.invariant.1 (search rules) c.used_at-used.ensures.0)

pub returns : goal.returns
unfolding used_places
returns c = (counted_end c.loop-p.invariant.1 (search rules), search rules)
