-- Code alone shows data as code.
use Rattle.loading.proofs.PageLaws.{shown_code, shown_own}
use Rattle.loading.proofs.page.shown_of.Goals as goal

pub returns-then-n-kind : goal.returns-then-n-kind
returns-then-n-kind c = shown_code _ _ _ c.requires c.if-n-kind.true c.region_of.ensures

pub returns : goal.returns
returns c = shown_own _ _ _ c.requires c.if-n-kind.false c.region_of-2.ensures
