use Rattle.desk_contents.proofs.ContentsLaws.{total_start, total_next}
use Rattle.desk_contents.specs.Contents.{good_contents}
use Rattle.lists.proofs.BoundedLaws.{passed_start, passed_next, passed_fails, passed_all}
use Rattle.std.proofs.Common.{sym, ◌∙◌, rules}
use Rattle.desk_contents.proofs.are_good.Goals as goal

pub loop-i-init : goal.loop-i-init
loop-i-init c = (total_start _, (search rules, passed_start))

pub returns-then-not-is_good : goal.returns-then-not-is_good
unfolding good_contents
returns-then-not-is_good c = sym (passed_fails c.loop-i.invariant.1.1 c.loop-i-test.true (sym c.is_good.ensures ∙ c.if-not-is_good.true))

pub loop-i-preserved : goal.loop-i-preserved
loop-i-preserved c = (
  rw (total_next _ _, c.count_at-below.ensures.0, c.loop-i.invariant.0),
  (search rules, passed_next c.loop-i.invariant.1.1 c.loop-i-test.true (sym c.is_good.ensures ∙ c.if-not-is_good.false)),
)

pub returns : goal.returns
unfolding good_contents
returns c = sym (passed_all c.loop-i.invariant.1.1 c.loop-i-test.false)
