-- A delete at the seam, and the same cut, evaluated: B 1,024, T 2, D 1. File A has two entries, in slots 0 and 4, which lie in two
-- directory records, and block 1.
use mathlib.Core.Path.{◌≡◌, refl}
use mathlib.Core.List.{List, [], ◌∷◌, ◌++◌}
use Prim.Native.Nat.{ℕ}
use lib.ListN.{replicate}
use Rattle.lists.specs.Bounded.{low_from, any_from, fold}
use Rattle.lists.specs.Bytes.{part, put, all}
use Rattle.numbers.specs.Numbers.{bytes_of, number}
use Rattle.disk_geometry.specs.Geometry.{lawful, bytes, start, slot_start, inside, places}
use Rattle.disk_volume.specs.Name.{strip, name_at, like, good_name}
use Rattle.disk_volume.specs.Entry.{block_in, matches}
use Rattle.disk_volume.specs.Directory.{slot_at, find_slot}
use Rattle.disk_stores.specs.Pieces.{map_piece}
use Rattle.disk_stores.specs.Stores.{laid, sweep_stores}
use Rattle.disk_held.specs.Held.{release}
use Rattle.call_answers.specs.Refusal.{first_met}
use Rattle.call_served.specs.Calls.{call_of}
use Rattle.call_delete.specs.Delete.{delete_tests, free_place, free_entry, free_slot, free_matches}
use Rattle.filecalls.specs.State.{is_open}
use Rattle.filecalls.specs.Outcome.{unless, outcome, changed_state}
use Rattle.filecalls.specs.Names.{delete_ladder, delete_act}
use Rattle.bdos.specs.Step.{does, step}
use Rattle.bdos.specs.Stores.{call_stores}
use Rattle.drive_bytes.specs.Layout.{head_bytes, search_bytes, held_bytes, front_bytes, encoded, encoded_in, kind_stored, words_at, fields, laid_out, is_drive, decoded}
use Rattle.seam_words.specs.Answered.{answered}
use Rattle.seam_calls.specs.Seam.{Sealed, sealed, at_seam, cut_at_seam}

-- the drive's 64 bytes by byte 32, the first of the held words
abbrev drive : ℕ → List ℕ
drive held = 0 ∷ 4 ∷ 2 ∷ 0 ∷ 1 ∷ 0 ∷ replicate 26 0 ++ (held ∷ replicate 31 0)

-- the name, and the volume by byte 0 of both entries: the first has one record, in block 1, the second is of extent 1 and has none
abbrev A : List ℕ
A = 65 ∷ replicate 10 32

abbrev disk : ℕ → ℕ → List ℕ
disk first second =
    (first ∷ A) ++ ((0 ∷ 0 ∷ 0 ∷ 1 ∷ 1 ∷ replicate 15 0) ++ (replicate 96 229
    ++ ((second ∷ A) ++ ((1 ∷ replicate 19 0) ++ (replicate 864 229 ++ replicate 1024 5)))))

abbrev fcb : List ℕ
fcb = (0 ∷ A) ++ replicate 24 0

-- the delete with at most so many stores; what is left of it, the drive closed
abbrev cut_after : ℕ → Sealed
cut_after most = cut_at_seam most 19 0 (drive 2) (disk 0 0) fcb []

abbrev left : ℕ → List ℕ → Sealed
left r v = sealed r (replicate 64 0) v fcb []

pub record Examples : Type 0 where
  -- both entries are empty, and block 1 is free in the drive's own bytes
  pub deleted : at_seam 19 0 (drive 2) (disk 0 0) fcb [] ≡ sealed 0 (drive 0) (disk 229 229) fcb []
  -- the stores made in the high 16 bits: none, one of two, and both where more are allowed
  pub before : cut_after 0 ≡ left 0 (disk 0 0)
  pub between : cut_after 1 ≡ left 65536 (disk 229 0)
  pub enough : cut_after 9 ≡ left 131072 (disk 229 229)

pub examples : Examples
unfolding low_from any_from fold part put all bytes_of number lawful bytes start slot_start inside places strip name_at like good_name block_in matches slot_at find_slot map_piece laid sweep_stores release first_met call_of delete_tests free_place free_entry free_slot free_matches is_open unless outcome changed_state delete_ladder delete_act does step call_stores head_bytes search_bytes held_bytes front_bytes encoded encoded_in kind_stored words_at fields laid_out is_drive decoded answered at_seam cut_at_seam
examples = record { deleted = refl; before = refl; between = refl; enough = refl }
