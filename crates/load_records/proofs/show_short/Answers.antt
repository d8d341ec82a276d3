-- The read is lent a control block of one byte.
use Rattle.load_records.proofs.RecordLaws.{shorts}
use mathlib.Core.List.{[]}
use borrow.Author.Tests.{eqb-false}
use lib.ListN.{length}
use mathlib.Core.Path.{refl}
use borrow.Author.Rules.{rules}
use Rattle.load_records.proofs.show_short.Goals as goal

pub returns : goal.returns
returns c = shorts _ _ _ {k = length c.args.buffer.now} (eqb-false _ _ refl) (c.fill.ensures.after (λ y e. e)) (search rules) (c.read_random-r.ensures []) c.why_of.ensures
