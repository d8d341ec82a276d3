-- Request (xii) at the seam. After every run of the exported calls `churawel_cut`, given any call from C and a most number of
-- stores, leaves the volume cut there: the call's first stores laid down, in the state that the drive's bytes stand for and on
-- the volume that the run left. All that is said of cuts at the door (`Cuts`) holds of it; with enough stores it is the
-- volume that `churawel_call` leaves; and a further `churawel_log_in` accepts it.
use Rattle.std.specs.Prelude.{◌≡◌, List, [], ◌∷◌, ℕ, ◌+◌, ◌*◌, ◌≤◌, min, length}
use Rattle.disk_geometry.specs.declared.Geometry.{Geometry}
use Rattle.disk_geometry.specs.Geometry.{blocks, directory_blocks_of}
use Rattle.disk_stores.specs.Stores.{Store, cut}
use Rattle.disk_held.specs.Held.{free_count}
use Rattle.disk_rules.specs.Named.{held_of}
use Rattle.call_answers.specs.declared.Answer.TheVariants.{Ready}
use Rattle.call_served.specs.Asked.{Asked}
use Rattle.filecalls.specs.Stores.{refused_by}
use Rattle.bdos.specs.Step.{step}
use Rattle.bdos.specs.Stores.{stores_of}
use Rattle.drive_bytes.specs.Layout.{drive_bytes, decoded}
use Rattle.seam_words.specs.Answered.{answered}
use Rattle.seam_calls.specs.Seam.{Sealed, sealed, zeros, log_in_at_seam, cut_at_seam}
use Rattle.demands.specs.AtSeam.{call_at_seam, volume_left, drive_left, FromC, OverSeamRuns}
use Rattle.demands.specs.Cuts.{CutAnywhere}

-- after the run of the calls cs: the stores of the call c, and what `churawel_cut` leaves of it
module _ (g : Geometry) (v s : List ℕ) (cs : List Asked) (c : Asked) where
  abbrev pub stores_at_seam : List Store
  stores_at_seam = stores_of c (decoded (drive_left g v s cs)) (volume_left g v s cs)

  abbrev pub cut_leaves : ℕ → Sealed
  cut_leaves most = cut_at_seam most c.function c.parameter (drive_left g v s cs) (volume_left g v s cs) c.fcb c.buffer

pub record CutAtSeam (g : Geometry) (v s : List ℕ) (cs : List Asked) (c : Asked) : Type 0 where
  -- the refusal's number and how many stores were made; the drive closed, as long as it was lent, the volume cut, all else as given
  pub leaves : (most : ℕ) → cut_leaves g v s cs c most
      ≡ sealed (refused_by (step g c (decoded (drive_left g v s cs)) (volume_left g v s cs)).answer + 65536 * min most (length (stores_at_seam g v s cs c)))
      (zeros s) (cut g (volume_left g v s cs) most (stores_at_seam g v s cs c)) c.fcb c.buffer
  -- all that is said of such a cut at the door
  pub anywhere : CutAnywhere stores_of g c (decoded (drive_left g v s cs)) (volume_left g v s cs)
  -- "the call is that function with enough of them"
  pub enough : (most : ℕ) → length (stores_at_seam g v s cs c) ≤ most
      → (cut_leaves g v s cs c most).volume ≡ (call_at_seam c (drive_left g v s cs) (volume_left g v s cs)).volume
  pub accepts_cut : (most : ℕ) (t : List ℕ) → length t ≡ drive_bytes (blocks g)
      → (log_in_at_seam g (cut_leaves g v s cs c most).volume t).answer
      ≡ answered (Ready (free_count (held_of g (cut_leaves g v s cs c most).volume) (directory_blocks_of g) (blocks g)))

abbrev pub AnyCutAtSeam : Type 0
AnyCutAtSeam = OverSeamRuns (λ g v s cs. (c : Asked) → FromC (c ∷ []) → CutAtSeam g v s cs c)
