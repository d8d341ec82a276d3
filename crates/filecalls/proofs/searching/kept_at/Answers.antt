-- By definition.
use mathlib.Core.Path.{refl}
use Rattle.filecalls.specs.Search.{kept_at}
use Rattle.filecalls.proofs.searching.kept_at.Goals as goal

pub returns : goal.returns
unfolding kept_at
returns c = refl
