-- No slot passed so far stands for its file, so what is still to be searched gives the whole.
use Rattle.files.specs.Files.{is_listed}
use Rattle.disk_volume.specs.Directory.{slot_at}
use Rattle.disk_geometry.specs.Geometry.{slots}
use Rattle.disk_geometry.specs.declared.Geometry.{Geometry}
use Rattle.lists.proofs.BoundedLaws.{Searched}
use Prim.Native.Nat.{ℕ, ◌≤◌, max}
use mathlib.Core.List.{List}
use mathlib.Core.Bool.{Bool}
use Rattle.files.proofs.next_file.Given as goal

-- the test of slot j
abbrev pub listed_at : Geometry → List ℕ → ℕ → Bool
listed_at g volume j = is_listed g volume (slot_at g volume j) j

abbrev pub invariant-loop-i : goal.invariant-loop-i
invariant-loop-i l = (l.i ≤ max l.from l.n) × Searched (listed_at l.g l.volume) l.from (slots l.g) l.i
