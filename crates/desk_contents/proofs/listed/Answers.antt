use Rattle.desk_contents.proofs.ContentsLaws.{total_start, total_next}
use Rattle.std.proofs.Common.{rules}
use Rattle.desk_contents.proofs.listed.Goals as goal

pub loop-i-init : goal.loop-i-init
loop-i-init c = (total_start _, search rules)

pub loop-i-preserved : goal.loop-i-preserved
loop-i-preserved c = (rw (total_next _ _, c.count_at-sum.ensures.0, c.loop-i.invariant.0), search rules)
