-- Each of the 256 numbers agrees with the definition.
use Rattle.replay_script.proofs.LentLaws.{served_number_lem}
use borrow.Author.Rules.{rules}
use Rattle.replay_script.proofs.lending.is_served.Goals as goal

pub returns : goal.returns
returns c = rw c.lends_fcb.ensures (served_number_lem c.args.n (search rules))
