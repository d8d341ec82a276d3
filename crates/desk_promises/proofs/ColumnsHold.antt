-- Sigla by column hold: at every moment of a run the volume passes inspection and has the state's geometry.
use Prim.Native.Nat.{ℕ, ◌<◌}
use mathlib.Core.List.{List}
use Rattle.numbers.specs.Numbers.{Bytes}
use Rattle.filecalls.specs.declared.Drive.{Drive}
use Rattle.demands.proofs.Inspected.{sound_accepted}
use Rattle.demands.proofs.Acts.{Consistent}
use Rattle.demands.proofs.AlwaysHolds.{always_along}
use Rattle.desk_promises.specs.Columns.{ByColumn, SiglaByColumn}
use Rattle.desk_keeps.proofs.ReplacesHolds.{replaces}
use Rattle.desk_keeps.proofs.BackHolds as back

pub by_column : (d : Drive) (v fcb : List ℕ) (chapter old new : ℕ) → Consistent d v → Bytes v → old < 65536 → new < 65536
    → ByColumn d v fcb chapter old new
by_column d v fcb chapter old new c small old16 new16 =
    let good = sound_accepted _ _ c.sound in
    record {
      inspected = good;
      replaces = replaces d v fcb chapter old new small new16;
      there_and_back = back.there_and_back d v fcb chapter old new small old16 new16 good;
    }

pub sigla_by_column : SiglaByColumn
sigla_by_column g law v size ok login first cs lent d small fcb chapter old new old16 new16 =
    let a = always_along g law v size ok login first cs lent d in
    by_column _ _ fcb chapter old new a.consistent small old16 new16
