-- The three numbers of the group.
use Rattle.load_grants.proofs.grant_one.Goals as goal

pub returns : goal.returns
returns c = rw (c.grant.ensures, c.most_at-most.ensures.0, c.need_at-need.ensures.0, c.base_at-base.ensures.0)
