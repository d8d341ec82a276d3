-- The start of the region that has the base page.
use Rattle.loading.specs.Page.{page_start}
use borrow.Author.Rules.{rules}
use mathlib.Core.Path.{◌∙◌}
use Rattle.loading.proofs.page.page_start.Goals as goal

pub returns : goal.returns
unfolding page_start
returns c = (c.from.ensures ∙ rw (c.span_at-s.ensures, c.page_place.ensures.0), search rules)
