-- The call is lent the copy, and as many stores as are left.
use Rattle.desk.proofs.RecordLaws.{rewrites}
use Rattle.std.proofs.Common.{rules}
use Rattle.desk.proofs.records.rewrite_most.Goals as goal

pub returns : goal.returns
returns c = rewrites _ _ _ _ _ _ c.point.ensures c.rewrite_random_most.ensures (search rules) (search rules)
