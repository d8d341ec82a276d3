-- The files of small volumes, evaluated: B 1,024, 2,048 and 4,096, T 8, D 1; and of a hard disk, B 2,048, T 300, D 1.
use mathlib.Core.Path.{◌≡◌, refl}
use mathlib.Core.List.{List, [], ◌∷◌, ◌++◌}
use Prim.Native.Nat.{ℕ, ◌*◌, ◌-◌}
use lib.ListN.{replicate, length, set}
use Rattle.lists.specs.Bounded.{low_from, any_from, count_from, fold}
use Rattle.lists.specs.Bytes.{part}
use Rattle.numbers.specs.Numbers.{bytes_of}
use Rattle.disk_geometry.specs.declared.Geometry.{Geometry}
use Rattle.disk_geometry.specs.Geometry.{start, slot_start, places, geometry_of}
use Rattle.disk_volume.specs.Fields.{USER, T1, T2, EX, S2, RC}
use Rattle.disk_volume.specs.Name.{strip, name_at, same}
use Rattle.disk_volume.specs.Entry.{Entry, block_in, of_file}
use Rattle.disk_volume.specs.Directory.{slot_at, find_slot}
use Rattle.call_size.specs.Size.{entry_end, larger, size_of}
use Rattle.files.specs.Files.{used_places, more_blocks, blocks_of, is_listed, next_file, is_marked}
use Rattle.files.specs.Line.{line_bytes, file_bytes}

-- SIGLA.TXT of user 0, extent 0, 128 records by its rc, with blocks 1 and 2 in places 0 and 2; altered in one byte
abbrev sigla : Entry
sigla =
    0 ∷ 83 ∷ 73 ∷ 71 ∷ 76 ∷ 65 ∷ 32 ∷ 32 ∷ 32 ∷ 84 ∷ 88 ∷ 84 ∷ 0 ∷ 0 ∷ 0 ∷ 128
    ∷ 1 ∷ 0 ∷ 2 ∷ 0 ∷ 0 ∷ 0 ∷ 0 ∷ 0 ∷ 0 ∷ 0 ∷ 0 ∷ 0 ∷ 0 ∷ 0 ∷ 0 ∷ 0 ∷ []

abbrev with : ℕ → ℕ → Entry → Entry
with k b e = set e k b

-- its next extent, one record in block 4, marked as a system file; the same name of user 3, 7 records in block 3; and SIGLA.TXU
-- of user 15, read-only, up to the last record that there can be
abbrev next : Entry
next = with EX 1 (with RC 1 (with T2 216 (with 16 4 (with 18 0 sigla))))

abbrev thirds : Entry
thirds = with USER 3 (with RC 7 (with 16 0 (with 18 3 sigla)))

abbrev last : Entry
last = with USER 15 (with T1 212 (with 11 85 (with EX 31 (with S2 15 (with 16 5 (with 18 0 sigla))))))

abbrev empty : Entry
empty = replicate 32 229

-- these entries in the first slots, and all else is E5H
abbrev small : ℕ → Geometry
small b = geometry_of b 8 1

abbrev disk : ℕ → List ℕ → List ℕ
disk b entries = entries ++ replicate (8 * b - length entries) 229

-- slots 0, 1, 3 and 4; slot 2 is empty, and slot 3 belongs to the file of slot 0
abbrev four : List ℕ
four = disk 1024 (sigla ++ thirds ++ empty ++ next ++ last)

abbrev file_from : ℕ → ℕ
file_from i = next_file (small 1024) four i

abbrev line : ℕ → List ℕ
line i = file_bytes (small 1024) four (slot_at (small 1024) four i)

-- the line of the only file of a disk of other blocks: extent x, 21 records there by rc
abbrev alone : ℕ → ℕ → List ℕ
alone b x = file_bytes (small b) (disk b (with EX x (with RC 21 sigla))) sigla

-- the only file of a hard disk, 21 records: blocks 256 and 257, whose numbers have two bytes, in places 0 and 1
abbrev hard : Entry
hard = with RC 21 (with 16 0 (with 17 1 (with 18 1 (with 19 1 sigla))))

abbrev on_hard_disk : List ℕ
on_hard_disk = file_bytes (geometry_of 2048 300 1) (hard ++ replicate 2016 229) hard

abbrev SIGLA : List ℕ
SIGLA = 83 ∷ 73 ∷ 71 ∷ 76 ∷ 65 ∷ 32 ∷ 32 ∷ 32 ∷ 84 ∷ 88 ∷ 84 ∷ []

pub record Examples : Type 0 where
  -- each file by its lowest slot; another user's is another file
  first : file_from 0 ≡ 0
  other_user : file_from 1 ≡ 1
  not_again : file_from 2 ≡ 4
  its_own_slot : file_from 4 ≡ 4
  no_more : file_from 5 ≡ 32
  behind : file_from 40 ≡ 40
  -- two entries: 129 records, three blocks, a system file by the second
  two_entries : line 0 ≡ 0 ∷ (SIGLA ++ (0 ∷ 1 ∷ 129 ∷ 0 ∷ 0 ∷ 0 ∷ 3 ∷ 0 ∷ 0 ∷ 0 ∷ 0 ∷ 0 ∷ []))
  of_user_3 : line 1 ≡ 3 ∷ (SIGLA ++ (0 ∷ 0 ∷ 7 ∷ 0 ∷ 0 ∷ 0 ∷ 1 ∷ 0 ∷ 0 ∷ 0 ∷ 0 ∷ 0 ∷ []))
  -- 65,536 records in one block; the name without its top bit
  largest : line 4 ≡ 15 ∷ (set SIGLA 10 85 ++ (1 ∷ 0 ∷ 0 ∷ 0 ∷ 1 ∷ 0 ∷ 1 ∷ 0 ∷ 0 ∷ 0 ∷ 0 ∷ 0 ∷ []))
  -- a lower extent of the group counts 128
  of_2048 : alone 2048 1 ≡ 0 ∷ (SIGLA ++ (0 ∷ 0 ∷ 149 ∷ 0 ∷ 0 ∷ 0 ∷ 2 ∷ 0 ∷ 0 ∷ 0 ∷ 0 ∷ 0 ∷ []))
  of_4096 : alone 4096 3 ≡ 0 ∷ (SIGLA ++ (0 ∷ 0 ∷ 149 ∷ 1 ∷ 0 ∷ 0 ∷ 2 ∷ 0 ∷ 0 ∷ 0 ∷ 0 ∷ 0 ∷ []))
  -- two blocks: three bytes of the map are not 0, and one low byte is
  of_hard_disk : on_hard_disk ≡ 0 ∷ (SIGLA ++ (0 ∷ 0 ∷ 21 ∷ 0 ∷ 0 ∷ 0 ∷ 2 ∷ 0 ∷ 0 ∷ 0 ∷ 0 ∷ 0 ∷ []))

pub examples : Examples
unfolding next_file is_listed find_slot file_bytes line_bytes is_marked blocks_of more_blocks used_places size_of larger entry_end low_from any_from count_from fold part bytes_of start slot_start places strip name_at same block_in of_file slot_at
examples = record {
  first = refl;
  other_user = refl;
  not_again = refl;
  its_own_slot = refl;
  no_more = refl;
  behind = refl;
  two_entries = refl;
  of_user_3 = refl;
  largest = refl;
  of_2048 = refl;
  of_4096 = refl;
  of_hard_disk = refl;
}
