-- The entries seen so far gave m, so what is left to be seen gives the whole.
use mathlib.Core.Path.{sym}
use Rattle.files.specs.Files.{blocks_of}
use Rattle.lists.proofs.FoldLaws.{folded_next, folded_end}
use borrow.Author.Rules.{rules}
use Rattle.files.proofs.blocks_held.blocks_of.Goals as goal

pub loop-i-preserved : goal.loop-i-preserved
loop-i-preserved c = (c.more_blocks-m.ensures.1, folded_next c.loop-i.invariant.1 (search rules) c.more_blocks-m.ensures.0)

pub returns : goal.returns
unfolding blocks_of
returns c = sym (folded_end c.loop-i.invariant.1 (search rules))
