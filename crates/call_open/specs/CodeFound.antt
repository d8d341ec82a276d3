-- What open and close find, in the words of their contracts: why they are refused, and what open shows.
use Rattle.std.specs.Prelude.{Bool, not, List, [], ◌∷◌, ℕ, leb}
use Rattle.disk_geometry.specs.declared.Geometry.{Geometry}
use Rattle.disk_geometry.specs.Geometry.{slots}
use Rattle.disk_volume.specs.Directory.{slot_at}
use Rattle.call_fcb.specs.Fcb.{ex_fits, extent_fits, opened}
use Rattle.call_answers.specs.declared.Refusal.{Refusal}
use Rattle.call_answers.specs.declared.Refusal.TheVariants.{Position, NoMatch}
use Rattle.call_answers.specs.Refusal.{test, first_met, unless_refused}
use Rattle.call_open.specs.declared.Found.{Found}
use Rattle.call_open.specs.Open.{open_slot, close_slot}

-- 40 where the position does not fit, then 255 where the slot is none
abbrev pub slot_why : Geometry → Bool → ℕ → Refusal
slot_why g fits slot = first_met (test Position (not fits) ∷ test NoMatch (leb (slots g) slot) ∷ [])

abbrev pub open_why : Geometry → List ℕ → ℕ → List ℕ → Refusal
open_why g v u fcb = slot_why g (ex_fits fcb) (open_slot g v u fcb)

abbrev pub close_why : Geometry → List ℕ → ℕ → List ℕ → Refusal
close_why g v u fcb = slot_why g (extent_fits fcb) (close_slot g v u fcb)

-- the control block, with the entry that was found where nothing refuses
abbrev pub opened_or : Geometry → List ℕ → Found → List ℕ → List ℕ
opened_or g v found fcb = unless_refused found.why (opened fcb (slot_at g v found.slot)) fcb
