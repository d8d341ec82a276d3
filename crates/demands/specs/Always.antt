-- What demand 2 says of writes holds at every moment of a run as in demand 3: state and volume are then `Sound`, which is
-- all that it asks beside a write that succeeds. The list of calls may be any, so this is so after each of them.
use Rattle.filecalls.specs.declared.Drive.{Drive}
use Rattle.bdos.specs.Step.{step}
use Rattle.demands.specs.Run.{final, final_state}
use Rattle.demands.specs.Demand2.{Sound}
use Rattle.demands.specs.Demand3.{OverRuns}

abbrev pub AlwaysSound : Type 0
AlwaysSound = OverRuns (λ g v cs. (d : Drive) → Sound (final_state (step g) cs d v) (final (step g) cs d v))
