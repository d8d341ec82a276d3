-- The lengths of the groups passed so far.
use Rattle.load_header.specs.Header.{image_start}
use Rattle.load_header.proofs.HeaderLaws.{start_next}
use mathlib.Core.Path.{refl}
use borrow.Author.Rules.{rules}
use Rattle.load_header.proofs.image_start.Goals as goal

pub loop-i-init : goal.loop-i-init
unfolding image_start
loop-i-init c = (refl, search rules)

pub loop-i-preserved : goal.loop-i-preserved
loop-i-preserved c = (rw (start_next _ _, c.length_at-sum.ensures.0, c.loop-i.invariant.0), search rules)
