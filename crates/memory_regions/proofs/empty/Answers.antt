-- Eight unused places.
use Rattle.memory_regions.specs.Places.{padded}
use mathlib.Core.Path.{refl}
use Rattle.memory_regions.proofs.empty.Goals as goal

pub returns : goal.returns
unfolding padded
returns c = refl
