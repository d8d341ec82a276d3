use Rattle.desk_contents.proofs.ContentsLaws.{every_zero}
use Rattle.desk_contents.specs.Contents.{others}
use Rattle.lists.proofs.BoundedLaws.{passed_next, passed_fails, passed_all}
use Rattle.std.proofs.Common.{sym, ◌∙◌}
use Rattle.desk_contents.proofs.are_others.Goals as goal

pub returns-then-not-is_other : goal.returns-then-not-is_other
unfolding others
returns-then-not-is_other c =
    sym (passed_fails c.loop-j.invariant c.loop-j-test.true (sym c.is_other.ensures ∙ c.if-not-is_other.true)) ∙ every_zero _ _

pub loop-j-preserved : goal.loop-j-preserved
loop-j-preserved c = passed_next c.loop-j.invariant c.loop-j-test.true (sym c.is_other.ensures ∙ c.if-not-is_other.false)

pub returns : goal.returns
unfolding others
returns c = sym (passed_all c.loop-j.invariant c.loop-j-test.false) ∙ every_zero _ _
