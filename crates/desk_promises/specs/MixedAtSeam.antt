-- Runs that mix calls and replacements (`Mixed`), of what C calls: one `churawel_log_in`, and then any `churawel_call` and
-- `churawel_replace_siglum`, refused ones among them, each given the drive's bytes and the volume that the last left. Demand 3's last
-- sentence is kept, with a file counted as named where the number of an answer says that the deed was done (`kept`); and the next
-- `churawel_replace_siglum` does what is said of one after calls alone (`by-column`).
--
-- It is asked that what is lent is bytes, that a parameter has 8 bits and a new siglum 16: what C hands over is so.
use Rattle.std.specs.Prelude.{◌≡◌, Bool, true, false, ◌&&◌, ◌||◌, List, [], ◌∷◌, ℕ, ◌%◌, ◌<◌, eqb, length}
use Rattle.numbers.specs.Numbers.{Bytes}
use Rattle.disk_geometry.specs.declared.Geometry.{Geometry}
use Rattle.disk_geometry.specs.Geometry.{lawful, bytes, slots, blocks}
use Rattle.disk_rules.specs.GoodSlot.{lowest_bad}
use Rattle.drive_bytes.specs.Layout.{drive_bytes, decoded}
use Rattle.seam_calls.specs.Seam.{log_in_at_seam}
use Rattle.seam_desk.specs.Sigla.{replace_at_seam}
use Rattle.demands.specs.AtSeam.{call_at_seam, succeeded_in}
use Rattle.desk_promises.specs.Mixed.{Deed, calls, replaces, names, MixedKept}
use Rattle.desk_promises.specs.ColumnsAtSeam.{ByColumnAtSeam}

-- ---- one deed
-- the drive's bytes and the volume after it
abbrev pub drive_from : Deed → List ℕ → List ℕ → List ℕ
drive_from (calls c) s v = (call_at_seam c s v).drive
drive_from (replaces fcb chapter old new) s v = s

abbrev pub volume_from : Deed → List ℕ → List ℕ → List ℕ
volume_from (calls c) s v = (call_at_seam c s v).volume
volume_from (replaces fcb chapter old new) s v = (replace_at_seam s v fcb chapter old new).volume

-- the number of its answer says that it was done
abbrev pub told_done : Deed → List ℕ → List ℕ → Bool
told_done (calls c) s v = succeeded_in c (call_at_seam c s v)
told_done (replaces fcb chapter old new) s v = eqb ((replace_at_seam s v fcb chapter old new).answer % 65536) 0

-- what C hands over
abbrev pub HandedOver : Deed → List ℕ → Type 0
HandedOver (calls c) v = (c.parameter < 256) × Bytes c.fcb
HandedOver (replaces fcb chapter old new) v = Bytes v × (new < 65536)

-- ---- the volume and the drive's bytes at the end of a run, and the files that were named
unfoldable pub ending_at_seam : List Deed → List ℕ → List ℕ → List ℕ
ending_at_seam [] s v = v
ending_at_seam (x ∷ xs) s v = ending_at_seam xs (drive_from x s v) (volume_from x s v)

unfoldable pub drive_ending : List Deed → List ℕ → List ℕ → List ℕ
drive_ending [] s v = s
drive_ending (x ∷ xs) s v = drive_ending xs (drive_from x s v) (volume_from x s v)

unfoldable pub named_at_seam : List Deed → List ℕ → List ℕ → ℕ → List ℕ → Bool
named_at_seam [] s v u name = false
named_at_seam (x ∷ xs) s v u name =
    (told_done x s v && names x (decoded s) u name) || named_at_seam xs (drive_from x s v) (volume_from x s v) u name

unfoldable pub AllHandedOver : List Deed → List ℕ → List ℕ → Type 0
AllHandedOver [] s v = Unit {0}
AllHandedOver (x ∷ xs) s v = HandedOver x v × AllHandedOver xs (drive_from x s v) (volume_from x s v)

-- ---- the run of xs with the drive's bytes s, on the volume v
pub record MixedSealed (g : Geometry) (v s : List ℕ) (xs : List Deed) : Type 0 where
  pub kept : MixedKept g v (ending_at_seam xs s v) (named_at_seam xs s v)
  pub by_column : Bytes (ending_at_seam xs s v) → (fcb : List ℕ) (chapter old new : ℕ) → old < 65536 → new < 65536
      → ByColumnAtSeam g (drive_ending xs s v) (ending_at_seam xs s v) fcb chapter old new

abbrev pub MixedAtSeam : Type 0
MixedAtSeam =
    (g : Geometry) → lawful g ≡ true → (v : List ℕ) → length v ≡ bytes g → lowest_bad g v ≡ slots g
    → (s : List ℕ) → length s ≡ drive_bytes (blocks g) → (xs : List Deed) → AllHandedOver xs (log_in_at_seam g v s).drive v
    → MixedSealed g v (log_in_at_seam g v s).drive xs
