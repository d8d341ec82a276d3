-- M80 is the last byte of the first field.
use Rattle.loading.proofs.PageLaws.{last_one, last_zero}
use Rattle.loading.proofs.page.last_of.Goals as goal

pub returns-then-n-kind : goal.returns-then-n-kind
returns-then-n-kind c = last_one _ _ c.requires c.if-n-kind.true

pub returns-else-n-kind : goal.returns-else-n-kind
returns-else-n-kind c = last_zero _ _ c.requires c.if-n-kind.false
