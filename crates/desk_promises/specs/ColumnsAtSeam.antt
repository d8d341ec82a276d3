-- Request (x) at the seam. After every run of the exported calls `churawel_replace_siglum`, given anything from C, leaves what the
-- replacement leaves in the state that the drive's bytes stand for, on the volume that the run left: its answer as one number and the
-- volume. All that is said of sigla by column (`Columns`) holds of it, and a further `churawel_log_in` accepts the volume.
use Rattle.std.specs.Prelude.{◌≡◌, List, ℕ, ◌+◌, ◌*◌, ◌<◌, length}
use Rattle.numbers.specs.Numbers.{Bytes}
use Rattle.disk_geometry.specs.declared.Geometry.{Geometry}
use Rattle.disk_geometry.specs.Geometry.{blocks, directory_blocks_of}
use Rattle.disk_held.specs.Held.{free_count}
use Rattle.disk_rules.specs.Named.{held_of}
use Rattle.call_answers.specs.declared.Answer.TheVariants.{Ready}
use Rattle.drive_bytes.specs.Layout.{drive_bytes, decoded}
use Rattle.desk.specs.Answer.{number_of, value_of}
use Rattle.desk.specs.Replace.{Desk, replacement}
use Rattle.seam_words.specs.Answered.{answered}
use Rattle.seam_calls.specs.Seam.{log_in_at_seam}
use Rattle.seam_desk.specs.Sigla.{Replaced, replaced, replace_at_seam}
use Rattle.demands.specs.AtSeam.{volume_left, drive_left, OverSeamRuns}
use Rattle.desk_promises.specs.Columns.{ByColumn}

-- what the exported function leaves, and the replacement in the drive's state: by the drive's bytes s, on the volume w
module _ (s w fcb : List ℕ) (chapter old new : ℕ) where
  abbrev pub replaces_at_seam : Replaced
  replaces_at_seam = replace_at_seam s w fcb chapter old new

  abbrev pub replaces_in_state : Desk
  replaces_in_state = replacement (decoded s) w fcb chapter old new

pub record ByColumnAtSeam (g : Geometry) (s w fcb : List ℕ) (chapter old new : ℕ) : Type 0 where
  pub leaves : replaces_at_seam s w fcb chapter old new
      ≡ replaced (number_of (replaces_in_state s w fcb chapter old new).answer + 65536 * value_of (replaces_in_state s w fcb chapter old new).answer)
      (replaces_in_state s w fcb chapter old new).volume
  pub by_column : ByColumn (decoded s) w fcb chapter old new
  pub accepts_again : (t : List ℕ) → length t ≡ drive_bytes (blocks g)
      → (log_in_at_seam g (replaces_at_seam s w fcb chapter old new).volume t).answer
      ≡ answered (Ready (free_count (held_of g (replaces_at_seam s w fcb chapter old new).volume) (directory_blocks_of g) (blocks g)))

abbrev pub ColumnsAtSeam : Type 0
ColumnsAtSeam =
    OverSeamRuns (λ g v s cs. Bytes (volume_left g v s cs) → (fcb : List ℕ) (chapter old new : ℕ) → old < 65536 → new < 65536
    → ByColumnAtSeam g (drive_left g v s cs) (volume_left g v s cs) fcb chapter old new)
