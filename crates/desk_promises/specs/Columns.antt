-- Request (x), sigla by column: "On a volume used as in demand 3, replacing one siglum by another in one chapter alters bytes 0
-- and 1 of matching records and no other byte of any file; the control block keeps its bytes."
--
-- For any geometry within the rules, any volume of its length that passes inspection, any run of calls as in demand 3, and any
-- replacement after it: what `desk_keeps/specs/Sigla` says, whole, cut, and there and back. The volume passes inspection at that
-- moment, so it passes afterwards, and every record of every file has its bytes but for the siglum of the matching ones.
use Rattle.std.specs.Prelude.{ℕ, ◌<◌, ◌≡◌, List}
use Rattle.numbers.specs.Numbers.{Bytes}
use Rattle.disk_geometry.specs.Geometry.{slots}
use Rattle.disk_rules.specs.GoodSlot.{lowest_bad}
use Rattle.filecalls.specs.declared.Drive.{Drive}
use Rattle.bdos.specs.Step.{step}
use Rattle.desk_keeps.specs.Sigla.{Replaces, ThereAndBack}
use Rattle.demands.specs.Run.{final, final_state}
use Rattle.demands.specs.Demand3.{OverRuns}

-- in the state d on the volume v
pub record ByColumn (d : Drive) (v fcb : List ℕ) (chapter old new : ℕ) : Type 0 where
  pub replaces : Replaces d v fcb chapter old new
  pub inspected : lowest_bad d.geometry v ≡ slots d.geometry
  pub there_and_back : ThereAndBack d v fcb chapter old new

abbrev pub SiglaByColumn : Type 0
SiglaByColumn =
    OverRuns (λ g v cs. (d : Drive) → Bytes (final (step g) cs d v)
    → (fcb : List ℕ) (chapter old new : ℕ) → old < 65536 → new < 65536
    → ByColumn (final_state (step g) cs d v) (final (step g) cs d v) fcb chapter old new)
