-- A run keeps the invariant of demand 3, and the invariant is what demand 2 asks of state and volume.
use mathlib.Core.Path.{◌≡◌, refl, ◌∙◌}
use mathlib.Core.List.{List, [], ◌∷◌}
use Prim.Native.Nat.{ℕ}
use Rattle.disk_geometry.specs.declared.Geometry.{Geometry}
use Rattle.disk_rules.specs.Named.{held_of}
use Rattle.filecalls.specs.declared.Drive.{Drive}
use Rattle.filecalls.specs.State.{logged_in}
use Rattle.bdos.specs.Step.{step}
use Rattle.call_served.specs.Asked.{Asked}
use Rattle.demands.specs.Run.{final, final_state}
use Rattle.demands.specs.Demand3.{BytesLent, OverRuns}
use Rattle.demands.specs.Always.{AlwaysSound}
use Rattle.demands.proofs.Inspected.{accepted_sound}
use Rattle.demands.proofs.Acts.{Consistent}
use Rattle.demands.proofs.WriteCut.{sound_of}
use Rattle.demands.proofs.CallsKeep.{logged_in_lem}
use Rattle.demands.proofs.Demand3Holds.{step_keeps, starts}

-- what holds at every moment
pub record Along (g : Geometry) (d : Drive) (v : List ℕ) : Type 0 where
  pub geometry_is : d.geometry ≡ g
  pub consistent : Consistent d v

stays : (g : Geometry) (cs : List Asked) (d : Drive) (v : List ℕ) → d.geometry ≡ g → Consistent d v → BytesLent cs
    → Along g (final_state (step g) cs d v) (final (step g) cs d v)
unfolding final_state final
stays g [] d v same s small = record { geometry_is = same; consistent = s }
stays g (c ∷ cs) d v same s small =
    let keeps = step_keeps g c d v same s small.0 in
    stays g cs (step g c d v).drive (step g c d v).volume (keeps.geometry ∙ same) keeps.consistent small.1

pub always_along : OverRuns (λ g v cs. (d : Drive) → Along g (final_state (step g) cs d v) (final (step g) cs d v))
unfolding final_state final
always_along g law v size ok login first cs small d =
    let a = starts g law v size ok login first d in
    let s = logged_in_lem g law v size (accepted_sound g v ok) in
    rw a (stays g cs (logged_in g (held_of g v)) v refl s small)

pub always_sound : AlwaysSound
always_sound g law v size ok login first cs small d = sound_of _ _ (always_along g law v size ok login first cs small d).consistent
