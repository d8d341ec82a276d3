-- The bytes of a fault, evaluated: B 1,024, T 8, D 1, SIGLA.TXT of user 0 in slot 0 with blocks 1 and 2 in places 0 and 2; and on a
-- hard disk, B 2,048, T 300, D 1.
use mathlib.Core.Path.{◌≡◌, refl}
use mathlib.Core.List.{List, [], ◌∷◌, ◌++◌}
use Prim.Native.Nat.{ℕ, ◌-◌}
use lib.ListN.{replicate, length, set}
use Rattle.lists.specs.Bounded.{low_from, any_from, every_from}
use Rattle.lists.specs.Bytes.{part, all}
use Rattle.numbers.specs.Numbers.{bytes_of}
use Rattle.disk_geometry.specs.Geometry.{start, slot_start, group_of, inside, places, geometry_of}
use Rattle.disk_volume.specs.Fields.{T1, EX, RC, MAP}
use Rattle.disk_volume.specs.Name.{strip, name_at, same, good_name}
use Rattle.disk_volume.specs.Entry.{Entry, block_in, of_file, of_group}
use Rattle.disk_volume.specs.Directory.{slot_at, find_slot}
use Rattle.disk_rules.specs.GoodSlot.{good_top_bits, in_places, names_block, named_below, seen_below}
use Rattle.disk_faults.specs.Faults.{breaks_at, breaks, place_of, slot_of, twin_slot, told, first_of, first_broken}
use Rattle.seam_looks.specs.Fault.{owner_bytes, other_bytes, fault_bytes}

abbrev sigla : Entry
sigla =
    0 ∷ 83 ∷ 73 ∷ 71 ∷ 76 ∷ 65 ∷ 32 ∷ 32 ∷ 32 ∷ 84 ∷ 88 ∷ 84 ∷ 0 ∷ 0 ∷ 0 ∷ 21
    ∷ 1 ∷ 0 ∷ 2 ∷ 0 ∷ 0 ∷ 0 ∷ 0 ∷ 0 ∷ 0 ∷ 0 ∷ 0 ∷ 0 ∷ 0 ∷ 0 ∷ 0 ∷ 0 ∷ []

-- the fault of slot i where these entries stand in the first slots, and all else is E5H
abbrev told_of : ℕ → List ℕ → List ℕ
told_of i entries = fault_bytes (geometry_of 1024 8 1) (entries ++ replicate (8192 - length entries) 229) i

-- the same of the directory of a hard disk, whose first slot has this entry: inspection looks at nothing else
abbrev told_wide : List ℕ → List ℕ
told_wide entry = fault_bytes (geometry_of 2048 300 1) (entry ++ replicate 2016 229) 0

-- user 0 and the name as it stands
abbrev SIGLA : List ℕ
SIGLA = 0 ∷ 83 ∷ 73 ∷ 71 ∷ 76 ∷ 65 ∷ 32 ∷ 32 ∷ 32 ∷ 84 ∷ 88 ∷ 84 ∷ []

pub record Examples : Type 0 where
  -- rc 129: no place, no block, no other slot
  rc : told_of 0 (set sigla RC 129) ≡ 7 ∷ 0 ∷ 0 ∷ 0 ∷ 0 ∷ 0 ∷ 0 ∷ 0 ∷ (SIGLA ++ replicate 12 0)
  -- block 2 of slot 0 in place 2 of slot 1, which is marked read-only
  lower : told_of 1 (sigla ++ set (set (set sigla EX 1) MAP 7) T1 212) ≡ 10 ∷ 2 ∷ 2 ∷ 0 ∷ 1 ∷ 0 ∷ 0 ∷ 0 ∷ (set SIGLA 9 212 ++ SIGLA)
  -- block 300, which is T, in place 7: two bytes, low first, in the entry and in the fault
  wide : told_wide (set (set sigla 30 44) 31 1) ≡ 8 ∷ 7 ∷ 44 ∷ 1 ∷ 0 ∷ 0 ∷ 0 ∷ 0 ∷ (SIGLA ++ replicate 12 0)

pub examples : Examples
unfolding fault_bytes owner_bytes other_bytes bytes_of first_broken first_of breaks breaks_at told good_top_bits place_of slot_of twin_slot in_places names_block named_below seen_below find_slot low_from any_from every_from part all start slot_start group_of inside strip name_at same good_name places block_in of_file of_group slot_at
examples = record {
  rc = refl;
  lower = refl;
  wide = refl;
}
