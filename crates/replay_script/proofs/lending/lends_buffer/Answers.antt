-- Each of the 256 numbers agrees with the definition.
use Rattle.replay_script.proofs.LentLaws.{buffer_number_lem}
use borrow.Author.Rules.{rules}
use Rattle.replay_script.proofs.lending.lends_buffer.Goals as goal

pub returns : goal.returns
returns c = buffer_number_lem c.args.n (search rules)
