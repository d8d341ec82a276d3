-- The program's buffer: the report of up to 65,535 volumes fits into it, so all of the report is printed. Proved in
-- `proofs/RoomLaws`.
use Rattle.std.specs.Prelude.{◌≡◌, List, ℕ, ◌≤◌, length, take}
use Rattle.text.specs.Text.{text, puts}
use Rattle.shelf_figures.specs.declared.Shelf.{Shelf}
use Rattle.shelf_figures.specs.Shelf.{most_volumes}
use Rattle.shelf_figures.specs.Order.{Within}
use Rattle.shelf_report.specs.Report.{report}

-- seven lines of ten digits and a line's end
abbrev pub room : ℕ
room = 77

-- the figures of up to 65,535 volumes
pub record OfVolumes (s : Shelf) : Type 0 where
  pub many : ℕ
  pub few : many ≤ most_volumes
  pub within : Within many s

pub record Fits : Type 0 where
  pub short : (s : Shelf) → OfVolumes s → length (report s) ≤ room
  -- appended to a buffer that has this room, it is what the buffer begins with
  pub whole : (s : Shelf) (out after : List ℕ) (n : ℕ) → OfVolumes s → room ≤ length out → text after n ≡ puts (text out 0) (report s)
      → take n after ≡ report s
