-- By the place of the type.
use Rattle.loading.specs.Page.{region_of}
use mathlib.Core.Path.{◌∙◌}
use Rattle.loading.proofs.page.region_of.Goals as goal

pub returns : goal.returns
unfolding region_of
returns c = c.span_at.ensures ∙ rw c.place_of.ensures.0
