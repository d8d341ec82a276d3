-- Request (i) at the seam. A run from C is one `churawel_log_in` and then any list of calls of `churawel_call` (`AtSeam`). Of any geometry
-- within the rules, any image of its length, sound or not, and any bytes for the drives: C sees on the image what it sees on the
-- unskewed volume, logged in as a straight one; what is left of the image, unskewed, is what is left of that volume; the drives' bytes
-- stand for the same state but for its placing; and so it is where `churawel_cut` cuts a further call (`EachRunAtSeam`).
-- On an eight-inch image the reserved tracks and the last six logical records keep every byte in such a run, and wherever a further call
-- is cut (`SpareKeptAtSeam`).
use Rattle.std.specs.Prelude.{◌≡◌, true, List, ℕ, length}
use Rattle.disk_geometry.specs.declared.Geometry.{Geometry}
use Rattle.disk_geometry.specs.Geometry.{floppy, lawful, bytes, blocks}
use Rattle.call_served.specs.Asked.{Asked}
use Rattle.unskewed.specs.Unskewed.{straightened, unskewed}
use Rattle.drive_bytes.specs.Layout.{drive_bytes, decoded}
use Rattle.demands.specs.AtSeam.{seen_in_run, volume_left, drive_left, FromC}
use Rattle.demands.specs.CutsAtSeam.{cut_leaves}
use Rattle.demands.specs.EightInch.{straight_drive, SpareSame}

-- the run of these calls on the image v, with the bytes s for its drive, and on the unskewed volume, with the bytes t
pub record SeamAsUnskewed (g : Geometry) (v s t : List ℕ) (cs : List Asked) : Type 0 where
  pub seen_same : seen_in_run (straightened g) (unskewed g v) t cs ≡ seen_in_run g v s cs
  pub volume_same : volume_left (straightened g) (unskewed g v) t cs ≡ unskewed g (volume_left g v s cs)
  pub state_same : decoded (drive_left (straightened g) (unskewed g v) t cs) ≡ straight_drive (decoded (drive_left g v s cs))
  -- a further call that is cut
  pub cut_answer_same : (c : Asked) (most : ℕ)
      → (cut_leaves (straightened g) (unskewed g v) t cs c most).answer ≡ (cut_leaves g v s cs c most).answer
  pub cut_volume_same : (c : Asked) (most : ℕ)
      → (cut_leaves (straightened g) (unskewed g v) t cs c most).volume ≡ unskewed g (cut_leaves g v s cs c most).volume

abbrev pub EachRunAtSeam : Type 0
EachRunAtSeam =
    (g : Geometry) → lawful g ≡ true → (v : List ℕ) → length v ≡ bytes g
    → (s t : List ℕ) → length s ≡ drive_bytes (blocks g) → length t ≡ drive_bytes (blocks g) → (cs : List Asked) → FromC cs
    → SeamAsUnskewed g v s t cs

pub record SpareKeptFromC (v s : List ℕ) (cs : List Asked) : Type 0 where
  pub at_end : SpareSame v (volume_left floppy v s cs)
  pub where_cut : (c : Asked) (most : ℕ) → SpareSame v (cut_leaves floppy v s cs c most).volume

abbrev pub SpareKeptAtSeam : Type 0
SpareKeptAtSeam =
    (v : List ℕ) → length v ≡ bytes floppy → (s : List ℕ) → length s ≡ drive_bytes (blocks floppy) → (cs : List Asked) → FromC cs
    → SpareKeptFromC v s cs
