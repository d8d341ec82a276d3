-- Data byte by data byte.
use Rattle.gencmd_groups.specs.CodeLaying.{laid}
use Rattle.lists.proofs.FoldLaws.{folded_next, folded_end}
use borrow.Author.Tests.{eq-eqb, ne_eqb}
use mathlib.Core.Path.{sym, ◌∙◌}
use borrow.Author.Rules.{rules}
use Rattle.gencmd_groups.proofs.laying.lay_line.Goals as goal

pub returns-then-group_of-group : goal.returns-then-group_of-group
unfolding laid
returns-then-group_of-group c = rw (← c.group_of.ensures, ne_eqb _ _ c.if-group_of-group.true)

pub loop-i-preserved : goal.loop-i-preserved
loop-i-preserved c =
    let l = c.loop-i in
    folded_next l.invariant (search rules) (c.lay_byte.ensures ∙ rw (c.address_of-address.ensures.0, c.data_of.ensures))

pub returns : goal.returns
unfolding laid
returns c = rw (← c.group_of.ensures, eq-eqb _ _ c.if-group_of-group.false) (sym (folded_end c.loop-i.invariant (search rules)))
