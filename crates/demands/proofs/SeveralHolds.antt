-- At the door several records are single calls: by the definitions.
use mathlib.Core.Path.{refl}
use Rattle.bdos.specs.Step.{carries, does, step}
use Rattle.call_served.specs.Calls.{call_of}
use Rattle.demands.specs.Several.{EqualsSingles}

pub equals_singles : EqualsSingles
unfolding step does carries call_of
equals_singles = record { reads = λ g p k d v f b. refl; writes = λ g p k d v f b. refl }
