-- The tests are the definition's.
use Rattle.load_header.specs.Header.{good_group}
use Rattle.load_header.proofs.is_good_group.Goals as goal

pub returns : goal.returns
unfolding good_group
returns c = rw (c.is_given-given.ensures, c.type_at-kind.ensures.0)
