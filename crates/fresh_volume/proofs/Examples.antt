-- A worn disk and the fresh one from it, evaluated: B 1,024, T 8, D 1, so 32 slots and blocks 1 to 7. Every byte of block b is b. One
-- with D 2 and files of two users, and an eight-inch image. And wrong copies, each with what it breaks.
use mathlib.Core.Path.{◌≡◌, refl}
use mathlib.Core.Bool.{true, false}
use mathlib.Core.List.{List, [], ◌∷◌, ◌++◌}
use Prim.Native.Nat.{ℕ, ◌*◌, ◌-◌}
use lib.Dec.{eqb}
use lib.ListN.{replicate, length, take, set}
use Rattle.lists.specs.Bounded.{low_from, any_from, every_from, count_from, fold}
use Rattle.lists.specs.Bytes.{byte, part, put, all}
use Rattle.disk_geometry.specs.declared.Geometry.{Geometry}
use Rattle.disk_geometry.specs.EightInch.{image_start}
use Rattle.disk_geometry.specs.Geometry.{start, slot_start, record_start, group_of, inside, places, place_of, geometry_of, floppy}
use Rattle.disk_volume.specs.Name.{strip, name_at, same, good_name}
use Rattle.disk_volume.specs.Entry.{Entry, block_in, with_block, count_of, of_file, of_group}
use Rattle.disk_volume.specs.Directory.{slot_at, find_slot, put_slot}
use Rattle.disk_volume.specs.Record.{record_slot, counted, present, record_at, put_record}
use Rattle.disk_held.specs.Held.{digit, holds, word_of, words_from, words_of, free_count}
use Rattle.disk_rules.specs.GoodSlot.{good_fields, good_top_bits, in_places, names_block, named_below, good_place, seen_below, good_slot, lowest_bad}
use Rattle.disk_rules.specs.Named.{named, held_of, free_of}
use Rattle.fresh_order.specs.Order.{file_slot, goes_before, put_before, enter, order}
use Rattle.fresh_volume.specs.Copy.{blocks_below, number_place, numbered, blocks_before, copied_entry, copied_record, put_block, laid_out, fresh}

abbrev pub G : Geometry
G = geometry_of 1024 8 1

-- an entry of user 0: the file's first letter, extent, rc, and the blocks in places 0 and 2
abbrev pub SIGLA : ℕ
SIGLA = 83

abbrev pub COLLA : ℕ
COLLA = 67

abbrev pub entry : ℕ → ℕ → ℕ → ℕ → ℕ → Entry
entry first ex rc b c =
    0 ∷ first ∷ 73 ∷ 71 ∷ 76 ∷ 65 ∷ 32 ∷ 32 ∷ 32 ∷ 84 ∷ 88 ∷ 84 ∷ ex ∷ 0 ∷ 0 ∷ rc
    ∷ b ∷ 0 ∷ c ∷ 0 ∷ 0 ∷ 0 ∷ 0 ∷ 0 ∷ 0 ∷ 0 ∷ 0 ∷ 0 ∷ 0 ∷ 0 ∷ 0 ∷ 0 ∷ []

abbrev pub name : ℕ → List ℕ
name first = first ∷ 73 ∷ 71 ∷ 76 ∷ 65 ∷ 32 ∷ 32 ∷ 32 ∷ 84 ∷ 88 ∷ 84 ∷ []

-- an empty slot that still has an old entry's bytes
abbrev pub gone : Entry
gone = set (entry SIGLA 5 9 1 6) 0 229

-- a directory with these entries in its first slots, and a block of one byte
abbrev pub directory : List ℕ → List ℕ
directory entries = entries ++ replicate (1024 - length entries) 229

abbrev pub block : ℕ → List ℕ
block x = replicate 1024 x

abbrev pub seven : ℕ → ℕ → ℕ → ℕ → ℕ → ℕ → ℕ → List ℕ
seven a b c d e f h = block a ++ block b ++ block c ++ block d ++ block e ++ block f ++ block h

-- the second extent of SIGLA.TXT stands in slot 0, its first in slot 3, COLLA.TXT between them; block 1 and block 6 are free
abbrev pub worn : List ℕ
worn = directory (entry SIGLA 1 4 5 0 ++ gone ++ entry COLLA 0 21 3 2 ++ entry SIGLA 0 128 7 4) ++ seven 1 2 3 4 5 6 7

-- the fresh disk: SIGLA.TXT has the lowest slot, so it is first, by rising extent
abbrev pub good : List ℕ
good = directory (entry SIGLA 0 128 1 2 ++ entry SIGLA 1 4 3 0 ++ entry COLLA 0 21 4 5) ++ seven 7 4 5 3 2 229 229

-- extent 32 of SIGLA.TXT (s2 1, ex 0), marked read-only, stands in slot 0 and has block b; its extent 5 has blocks b and c
abbrev pub late : ℕ → Entry
late b = set (set (entry SIGLA 0 9 b 0) 14 1) 9 212

abbrev pub early : ℕ → ℕ → Entry
early b c = entry SIGLA 5 128 b c

abbrev pub deep : List ℕ
deep = directory (late 6 ++ early 2 4) ++ seven 1 2 3 4 5 6 7

abbrev pub good_deep : List ℕ
good_deep = directory (early 1 2 ++ late 3) ++ seven 2 4 6 229 229 229 229

-- with D 2, so blocks 2 to 5, and two files of one name: the second extent of user 1's stands in slot 0, its first in slot 2, user 0's
-- file between them
abbrev G2 : Geometry
G2 = geometry_of 1024 6 2

abbrev of : ℕ → Entry → Entry
of user e = set e 0 user

abbrev directory2 : List ℕ → List ℕ
directory2 entries = directory entries ++ block 229

abbrev four : ℕ → ℕ → ℕ → ℕ → List ℕ
four a b c d = block a ++ block b ++ block c ++ block d

abbrev worn2 : List ℕ
worn2 = directory2 (of 1 (entry SIGLA 1 4 5 0) ++ entry SIGLA 0 8 3 0 ++ of 1 (entry SIGLA 0 128 4 0)) ++ four 2 3 4 5

abbrev good2 : List ℕ
good2 = directory2 (of 1 (entry SIGLA 0 128 2 0) ++ of 1 (entry SIGLA 1 4 3 0) ++ entry SIGLA 0 8 4 0) ++ four 4 5 3 229

-- the same onto a second disk that has other bytes
abbrev pub second : List ℕ
second = replicate 8192 170

-- ---- wrong copies
-- COLLA.TXT is left out
abbrev pub drops : List ℕ
drops = directory (entry SIGLA 0 128 1 2 ++ entry SIGLA 1 4 3 0) ++ seven 7 4 5 229 229 229 229

-- the entries keep their block numbers, the blocks are moved
abbrev pub keeps : List ℕ
keeps = directory (entry SIGLA 0 128 7 4 ++ entry SIGLA 1 4 5 0 ++ entry COLLA 0 21 3 2) ++ seven 7 4 5 3 2 229 229

-- the entries keep their block numbers, and the blocks stay where they were
abbrev pub in_place : List ℕ
in_place = directory (entry SIGLA 0 128 7 4 ++ entry SIGLA 1 4 5 0 ++ entry COLLA 0 21 3 2) ++ seven 229 2 3 4 5 229 7

-- each file's blocks are numbered anew from D
abbrev pub anew : List ℕ
anew = directory (entry SIGLA 0 128 1 2 ++ entry SIGLA 1 4 3 0 ++ entry COLLA 0 21 1 2) ++ seven 7 4 5 229 229 229 229

-- COLLA.TXT holds block 6 too, in place 4, where no record is counted
abbrev pub holds_more : List ℕ
holds_more = directory (entry SIGLA 0 128 1 2 ++ entry SIGLA 1 4 3 0 ++ set (entry COLLA 0 21 4 5) 20 6) ++ seven 7 4 5 3 2 229 229

-- a file without records stands behind the last entry
abbrev pub adds : List ℕ
adds = directory (entry SIGLA 0 128 1 2 ++ entry SIGLA 1 4 3 0 ++ entry COLLA 0 21 4 5 ++ entry 70 0 0 0 0) ++ seven 7 4 5 3 2 229 229

-- of the last block of COLLA.TXT the five records are copied that are counted
abbrev pub counted_alone : List ℕ
counted_alone =
    directory (entry SIGLA 0 128 1 2 ++ entry SIGLA 1 4 3 0 ++ entry COLLA 0 21 4 5)
    ++ block 7 ++ block 4 ++ block 5 ++ block 3 ++ replicate 640 2 ++ replicate 384 229 ++ block 229 ++ block 229

-- ordered by slot alone
abbrev pub by_slot : List ℕ
by_slot = directory (entry SIGLA 1 4 1 0 ++ entry COLLA 0 21 2 3 ++ entry SIGLA 0 128 4 5) ++ seven 5 3 2 7 4 229 229

-- old bytes in the free blocks
abbrev pub leaves : List ℕ
leaves = directory (entry SIGLA 0 128 1 2 ++ entry SIGLA 1 4 3 0 ++ entry COLLA 0 21 4 5) ++ seven 7 4 5 3 2 6 7

-- the mark is lost
abbrev pub unmarked : List ℕ
unmarked = directory (early 1 2 ++ set (late 3) 9 84) ++ seven 2 4 6 229 229 229 229

-- (xi): with T 512 a block number takes two bytes: blocks 300 and 511 in places 0 and 2
abbrev wide : Geometry
wide = geometry_of 2048 512 1

abbrev long : List ℕ → Entry
long map = take 16 (entry SIGLA 0 128 0 0) ++ map ++ replicate 10 0

-- an eight-inch image to the end of track 2 with one entry, in the first slot of logical record 1: sector 7 of that track; and the
-- second image, every byte of it AAH
abbrev image : List ℕ
image = replicate 7424 229 ++ entry SIGLA 0 21 7 4 ++ replicate 2528 229

abbrev second_image : List ℕ
second_image = replicate 9984 170

abbrev sector : ℕ → List ℕ
sector n = replicate 128 n

-- the second with the records 0 to 7 of block 2 laid into it, each byte of record n the number n: logical records 16 to 23 lie in sectors 20,
-- 26, 6, 12, 18, 24, 4 and 10
abbrev block_2_laid : List ℕ
block_2_laid =
    replicate 6656 170
    ++ replicate 384 170 ++ sector 6
    ++ sector 170 ++ sector 2
    ++ replicate 384 170 ++ sector 7
    ++ sector 170 ++ sector 3
    ++ replicate 640 170 ++ sector 4
    ++ sector 170 ++ sector 0
    ++ replicate 384 170 ++ sector 5
    ++ sector 170 ++ sector 1

pub record Examples : Type 0 where
  pub in_order : order G worn ≡ 3 ∷ 0 ∷ 2 ∷ []
  pub fresh_disk : fresh G worn second ≡ good
  pub passes : lowest_bad G good ≡ 32
  pub again : fresh G good second ≡ good
  -- extent 5 before extent 32, whose ex is 0; the mark stays where it was
  pub deep_passes : lowest_bad G deep ≡ 32
  pub deep_in_order : order G deep ≡ 1 ∷ 0 ∷ []
  pub fresh_deep : fresh G deep second ≡ good_deep
  pub two_bytes : numbered wide 255 (long (44 ∷ 1 ∷ 0 ∷ 0 ∷ 255 ∷ 1 ∷ [])) ≡ long (255 ∷ 0 ∷ 0 ∷ 0 ∷ 0 ∷ 1 ∷ [])
  -- by file, which is user and name, and from D 2 on
  pub two_users_pass : lowest_bad G2 worn2 ≡ 64
  pub two_users : order G2 worn2 ≡ 2 ∷ 0 ∷ 1 ∷ []
  pub fresh_two_users : fresh G2 worn2 (replicate 6144 170) ≡ good2
  -- on an eight-inch image blocks 7 and 4 become 2 and 3; block 2 lies in its sectors, and the reserved tracks keep their bytes
  pub floppy_entry : copied_entry floppy image (order floppy image) 0 ≡ entry SIGLA 0 21 2 3
  pub floppy_block : put_block floppy second_image 2 sector ≡ block_2_laid
  -- a record of COLLA.TXT is there, with its bytes: block 2 in place 2; and in the copy
  pub there : present G worn 0 (name COLLA) 16 ≡ true
  pub there_fresh : present G good 0 (name COLLA) 16 ≡ true
  pub its_bytes : record_at G worn 2 16 ≡ record_at G good 5 16

pub examples : Examples
unfolding image_start order enter put_before goes_before file_slot fresh laid_out put_block copied_record copied_entry blocks_before numbered number_place blocks_below find_slot slot_at put_slot record_at put_record record_slot counted present lowest_bad good_slot good_fields good_top_bits in_places names_block named_below good_place seen_below low_from any_from every_from count_from fold part put all start slot_start record_start group_of inside places place_of strip name_at same good_name block_in with_block count_of of_file of_group
examples = record {
  in_order = refl;
  fresh_disk = refl;
  passes = refl;
  again = refl;
  deep_passes = refl;
  deep_in_order = refl;
  fresh_deep = refl;
  two_bytes = refl;
  two_users_pass = refl;
  two_users = refl;
  fresh_two_users = refl;
  floppy_entry = refl;
  floppy_block = refl;
  there = refl;
  there_fresh = refl;
  its_bytes = refl;
}

pub record WrongDisks : Type 0 where
  -- a copy that drops a file has not the same records present
  pub drops_a_file : present G drops 0 (name COLLA) 16 ≡ false
  -- one that keeps block numbers does not have their bytes
  pub keeps_numbers : eqb (byte (record_at G keeps 2 16) 0) (byte (record_at G worn 2 16) 0) ≡ false
  pub in_place_again : eqb (byte (fresh G in_place second) 16) (byte in_place 16) ≡ false
  -- one that numbers each file anew does not pass inspection: block 1 belongs to slot 0 and to slot 2
  pub numbers_anew : lowest_bad G anew ≡ 2
  -- two blocks are free of the worn disk and of the fresh one; one that holds a block more has fewer, though it passes inspection
  pub worn_free : free_of G worn ≡ 2
  pub fresh_free : free_of G good ≡ 2
  pub holds_more_free : free_of G holds_more ≡ 1
  pub holds_more_passes : lowest_bad G holds_more ≡ 32
  -- one by slot alone, and one that leaves old bytes in free blocks, are not the same when they are copied
  pub by_slot_alone : eqb (byte (fresh G by_slot second) 12) (byte by_slot 12) ≡ false
  pub leaves_old_bytes : eqb (byte (fresh G leaves second) (6 * 1024)) (byte leaves (6 * 1024)) ≡ false

pub wrong_disks : WrongDisks
unfolding held_of named words_of words_from word_of free_count holds digit order enter put_before goes_before file_slot fresh laid_out put_block copied_record copied_entry blocks_before numbered number_place blocks_below find_slot slot_at put_slot record_at put_record record_slot counted present lowest_bad good_slot good_fields good_top_bits in_places names_block named_below good_place seen_below low_from any_from every_from count_from fold part put all start slot_start record_start group_of inside places place_of strip name_at same good_name block_in with_block count_of of_file of_group
wrong_disks = record {
  drops_a_file = refl;
  keeps_numbers = refl;
  in_place_again = refl;
  numbers_anew = refl;
  worn_free = refl;
  fresh_free = refl;
  holds_more_free = refl;
  holds_more_passes = refl;
  by_slot_alone = refl;
  leaves_old_bytes = refl;
}
