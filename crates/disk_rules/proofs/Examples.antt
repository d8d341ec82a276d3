-- Inspection evaluated: B 1,024, T 8, D 1, so 32 slots and blocks 1 to 7; then B 2,048, T 257, D 1, so 64 slots, blocks 1 to 256 and
-- numbers of two bytes.
use mathlib.Core.Path.{◌≡◌, refl}
use mathlib.Core.List.{List, [], ◌∷◌, ◌++◌}
use Prim.Native.Nat.{ℕ, ◌-◌}
use lib.ListN.{replicate, length}
use Rattle.lists.specs.Bounded.{low_from, any_from, every_from}
use Rattle.lists.specs.Bytes.{part, all}
use Rattle.disk_geometry.specs.declared.Geometry.{Geometry}
use Rattle.disk_geometry.specs.Geometry.{start, slot_start, group_of, inside, places, geometry_of}
use Rattle.disk_volume.specs.Name.{strip, name_at, same, good_name}
use Rattle.disk_volume.specs.Entry.{Entry, block_in, of_file, of_group}
use Rattle.disk_volume.specs.Directory.{slot_at}
use Rattle.disk_held.specs.Held.{word_of, words_of, none_held}
use Rattle.disk_rules.specs.GoodSlot.{good_fields, good_top_bits, in_places, names_block, named_below, good_place, seen_below, good_slot, lowest_bad}
use Rattle.disk_rules.specs.Named.{named, held_of}

abbrev G : Geometry
G = geometry_of 1024 8 1

-- SIGLA.TXT of a user, its first byte and t1 given, in extent ex with blocks b and c
abbrev entry : ℕ → ℕ → ℕ → ℕ → ℕ → ℕ → Entry
entry user first t1 ex b c =
    user ∷ first ∷ 73 ∷ 71 ∷ 76 ∷ 65 ∷ 32 ∷ 32 ∷ 32 ∷ t1 ∷ 88 ∷ 84 ∷ ex ∷ 0 ∷ 0 ∷ 21
    ∷ b ∷ 0 ∷ c ∷ 0 ∷ 0 ∷ 0 ∷ 0 ∷ 0 ∷ 0 ∷ 0 ∷ 0 ∷ 0 ∷ 0 ∷ 0 ∷ 0 ∷ 0 ∷ []

abbrev sigla : ℕ → ℕ → ℕ → Entry
sigla ex b c = entry 0 83 84 ex b c

-- a volume with these entries in its first slots, all else E5H
abbrev volume : List ℕ → List ℕ
volume entries = entries ++ replicate (8192 - length entries) 229

-- the second geometry, SIGLA.TXT in extent ex with the number of these two bytes in place 0 and of those in place 7, and the
-- directory with these entries: inspection looks at nothing else
abbrev wide : Geometry
wide = geometry_of 2048 257 1

abbrev sigla_wide : ℕ → ℕ → ℕ → ℕ → ℕ → Entry
sigla_wide ex low high low₇ high₇ =
    0 ∷ 83 ∷ 73 ∷ 71 ∷ 76 ∷ 65 ∷ 32 ∷ 32 ∷ 32 ∷ 84 ∷ 88 ∷ 84 ∷ ex ∷ 0 ∷ 0 ∷ 21
    ∷ low ∷ high ∷ 0 ∷ 0 ∷ 0 ∷ 0 ∷ 0 ∷ 0 ∷ 0 ∷ 0 ∷ 0 ∷ 0 ∷ 0 ∷ 0 ∷ low₇ ∷ high₇ ∷ []

abbrev directory : List ℕ → List ℕ
directory entries = entries ++ replicate (2048 - length entries) 229

pub record Examples : Type 0 where
  all_empty : lowest_bad G (volume []) ≡ 32
  all_empty_held : held_of G (volume []) ≡ none_held
  -- two extents of one file, which are two groups
  two_good : lowest_bad G (volume (sigla 0 1 2 ++ sigla 1 7 0)) ≡ 32
  two_good_held : held_of G (volume (sigla 0 1 2 ++ sigla 1 7 0)) ≡ 134 ∷ replicate 63 0
  -- a block twice in one entry, and in two slots
  twice : lowest_bad G (volume (sigla 0 2 2)) ≡ 0
  in_two_slots : lowest_bad G (volume (sigla 0 1 2 ++ sigla 1 2 0)) ≡ 1
  -- in a slot that is empty it doesn't count
  in_empty_slot : lowest_bad G (volume (entry 229 83 84 0 1 2 ++ sigla 1 2 0)) ≡ 32
  in_empty_slot_held : held_of G (volume (entry 229 83 84 0 1 2 ++ sigla 1 2 0)) ≡ 4 ∷ replicate 63 0
  -- the same user, name and group, though one has the read-only bit; another user
  same_group : lowest_bad G (volume (sigla 0 1 0 ++ entry 0 83 212 0 2 0)) ≡ 1
  another_user : lowest_bad G (volume (sigla 0 1 0 ++ entry 1 83 84 0 2 0)) ≡ 32
  -- with B 2,048 extents 0 and 1 are one group
  same_group_of_two : lowest_bad (geometry_of 2048 4 1) (volume (sigla 0 1 0 ++ sigla 1 2 0)) ≡ 1
  -- a top bit on byte 1, and on byte 9
  top_bit_on_1 : lowest_bad G (volume (entry 0 211 84 0 1 0)) ≡ 0
  top_bit_on_9 : lowest_bad G (volume (entry 0 83 212 0 1 0)) ≡ 32
  -- block T, and the highest below it
  beyond : lowest_bad G (volume (sigla 0 8 0)) ≡ 0
  highest : lowest_bad G (volume (sigla 0 7 0)) ≡ 32
  -- a block of the directory
  below-D : lowest_bad (geometry_of 1024 8 2) (volume (sigla 0 1 0)) ≡ 0
  -- numbers of two bytes, low first: blocks 256 and 255 are good and held; two extents are two groups
  wide_good : lowest_bad wide (directory (sigla_wide 0 0 1 255 0 ++ sigla_wide 1 1 0 2 0)) ≡ 64
  wide_held : held_of wide (directory (sigla_wide 0 0 1 255 0 ++ sigla_wide 1 1 0 2 0)) ≡ 6 ∷ 0 ∷ 0 ∷ 9223372036854775808 ∷ 1 ∷ replicate 59 0
  -- block T; a block in the first and in the eighth place, and in two slots; two blocks with the same low byte are two
  wide_beyond : lowest_bad wide (directory (sigla_wide 0 1 1 0 0)) ≡ 0
  wide_twice : lowest_bad wide (directory (sigla_wide 0 0 1 0 1)) ≡ 0
  wide_in_two_slots : lowest_bad wide (directory (sigla_wide 0 0 1 0 0 ++ sigla_wide 1 0 0 0 1)) ≡ 1
  wide_low_same : lowest_bad (geometry_of 2048 300 1) (directory (sigla_wide 0 5 1 5 0)) ≡ 64

pub examples : Examples
unfolding lowest_bad good_slot good_fields good_top_bits good_place in_places names_block named_below seen_below held_of named low_from any_from every_from part all start slot_start group_of inside strip name_at same good_name places block_in of_file of_group slot_at word_of words_of
examples = record {
  all_empty = refl;
  all_empty_held = refl;
  two_good = refl;
  two_good_held = refl;
  twice = refl;
  in_two_slots = refl;
  in_empty_slot = refl;
  in_empty_slot_held = refl;
  same_group = refl;
  another_user = refl;
  same_group_of_two = refl;
  top_bit_on_1 = refl;
  top_bit_on_9 = refl;
  beyond = refl;
  highest = refl;
  below-D = refl;
  wide_good = refl;
  wide_held = refl;
  wide_beyond = refl;
  wide_twice = refl;
  wide_in_two_slots = refl;
  wide_low_same = refl;
}
