-- An entry counts min(rc, 128) in its own extent.
use borrow.Author.Rules.{rules}
use Rattle.disk_volume.proofs.EntryLaws.{count_own}
use Rattle.call_size.specs.Size.{entry_end}
use Rattle.call_size.proofs.entry_end.Goals as goal

pub returns : goal.returns
unfolding entry_end
returns c =
    let own = c.extent_of-own in
    (rw (c.from.ensures, c.count_of.ensures.0, count_own c.args.e.now own.result own.ensures.0, own.ensures.0), search rules)
