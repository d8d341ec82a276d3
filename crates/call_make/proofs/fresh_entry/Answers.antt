-- User, name and twenty zeros, by computation.
use Rattle.call_make.specs.Make.{fresh_entry}
use Rattle.call_make.proofs.fresh_entry.Goals as goal

pub returns : goal.returns
unfolding fresh_entry
returns c = rw c.lay_name.ensures
