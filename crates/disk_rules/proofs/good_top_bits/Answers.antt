-- The bytes passed so far carry no top bit, or are bytes 9 and 10, so what is left decides.
use mathlib.Core.Path.{sym}
use borrow.Author.Rules.{rules}
use Rattle.lists.proofs.BoundedLaws.{passed_next, passed_fails, passed_all}
use Rattle.disk_rules.specs.GoodSlot.{good_top_bits}
use Rattle.disk_rules.proofs.good_top_bits.Goals as goal

pub returns-then-not-e-k : goal.returns-then-not-e-k
unfolding good_top_bits
returns-then-not-e-k c = sym (passed_fails c.loop-k.invariant (search rules) c.if-not-e-k.true)

pub loop-k-preserved : goal.loop-k-preserved
loop-k-preserved c = passed_next c.loop-k.invariant (search rules) c.if-not-e-k.false

pub returns : goal.returns
unfolding good_top_bits
returns c = sym (passed_all c.loop-k.invariant (search rules))
