-- Shelves at the seam, evaluated: V after 01's writes on an empty shelf; a volume without a byte, which log-in refuses by 33, on an empty
-- shelf, on a full one, on one with a figure of 2^48, and on bytes that are no shelf.
use mathlib.Core.Path.{◌≡◌, refl}
use mathlib.Core.List.{List, [], ◌∷◌, ◌++◌}
use Prim.Native.Nat.{ℕ}
use lib.ListN.{replicate}
use Rattle.lists.specs.Bytes.{part}
use Rattle.numbers.specs.Numbers.{bytes_of, number}
use Rattle.disk_geometry.specs.declared.Geometry.{Geometry}
use Rattle.disk_geometry.specs.Geometry.{geometry_of}
use Rattle.shelf_figures.specs.Shelf.{put}
use Rattle.shelf_figures.proofs.Examples.{three, examples}
use Rattle.shelf_bytes.specs.Layout.{laid, encoded, decoded}
use Rattle.seam_shelf.specs.Shelf.{shelved_answer, shelf_sealed, shelved_in, shelf_at_seam}

abbrev sizes : Geometry
sizes = geometry_of 1024 40 1

-- the bytes of a shelf that has seen a + 256b volumes, all of them refused
abbrev refused : ℕ → ℕ → List ℕ
refused a b = a ∷ b ∷ replicate 54 0 ++ (a ∷ b ∷ replicate 6 0)

-- the eight bytes of a number below 256
abbrev low : ℕ → List ℕ
low n = n ∷ replicate 7 0

-- one file in two entries, 14 records in three blocks, 36 blocks free, waste 10; one volume seen
abbrev three_writes : List ℕ
three_writes = low 0 ++ (low 1 ++ (low 2 ++ (low 14 ++ (low 3 ++ (low 36 ++ (low 10 ++ low 1))))))

-- the waste is 2^48
abbrev too_large : List ℕ
too_large = replicate 54 0 ++ (1 ∷ replicate 9 0)

pub record Examples : Type 0 where
  -- 0 and 0, and the figures
  pub sound : shelf_at_seam sizes three.bytes (replicate 64 0) ≡ shelf_sealed 0 three_writes three.bytes
  -- 0, and 33 from 65,536 on; 47, then 32 twice, and no byte changed
  pub counted : shelf_at_seam sizes [] (replicate 64 0) ≡ shelf_sealed 2162688 (refused 1 0) []
  pub full : shelf_at_seam sizes [] (refused 255 255) ≡ shelf_sealed 47 (refused 255 255) []
  pub limit : shelf_at_seam sizes [] too_large ≡ shelf_sealed 32 too_large []
  pub no_shelf : shelf_at_seam sizes [] (replicate 63 0) ≡ shelf_sealed 32 (replicate 63 0) []

on_empty : shelf_at_seam sizes [] (replicate 64 0) ≡ shelf_sealed 2162688 (refused 1 0) []
unfolding shelf_at_seam shelved_answer shelved_in laid encoded decoded number bytes_of part
on_empty = rw examples.short

on_empty_sound : shelf_at_seam sizes three.bytes (replicate 64 0) ≡ shelf_sealed 0 three_writes three.bytes
unfolding shelf_at_seam shelved_answer shelved_in laid encoded decoded number bytes_of part
on_empty_sound = rw examples.alone

pub at_seam_lem : Examples
unfolding put shelf_at_seam shelved_answer shelved_in decoded number part
at_seam_lem = record { sound = on_empty_sound; counted = on_empty; full = refl; limit = refl; no_shelf = refl }
