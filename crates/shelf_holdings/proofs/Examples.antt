-- The figures evaluated: on V when it is empty, after 01's writes, with a read-only extent, with an extent above 31, and with a file of
-- another user; on a hard disk, on a floppy, and with four extents to an entry.
use mathlib.Core.Path.{◌≡◌, refl, ◌∙◌}
use mathlib.Core.Bool.{true}
use mathlib.Core.List.{List, [], ◌∷◌, ◌++◌}
use Prim.Native.Nat.{ℕ, ◌-◌, ◌*◌}
use lib.ListN.{replicate, length, set}
use Rattle.lists.specs.Bounded.{low_from, any_from, every_from, count_from}
use Rattle.lists.specs.Bytes.{part, all}
use Rattle.sums.specs.Sum.{sum_from}
use Rattle.disk_geometry.specs.declared.Geometry.{Geometry}
use Rattle.disk_geometry.specs.EightInch.{image_start}
use Rattle.disk_geometry.specs.Geometry.{lawful, geometry_of, floppy, records, slots, start, slot_start, group_of, inside, places}
use Rattle.disk_volume.specs.Fields.{T1, S2}
use Rattle.disk_volume.specs.Name.{strip, name_at, same, good_name}
use Rattle.disk_volume.specs.Entry.{Entry, block_in, of_file, of_group}
use Rattle.disk_volume.specs.Directory.{slot_at, find_slot}
use Rattle.disk_rules.specs.GoodSlot.{good_fields, good_top_bits, in_places, names_block, named_below, good_place, seen_below, good_slot, lowest_bad}
use Rattle.disk_rules.specs.Named.{named}
use Rattle.files.specs.Files.{is_listed}
use Rattle.shelf_holdings.specs.declared.Holdings.{Holdings}
use Rattle.shelf_holdings.specs.Holdings.{files, entries, records_present, blocks_held, blocks_free, waste, holdings}
use Rattle.shelf_holdings.specs.CodeEntries.{place_records, entry_records, slot_records, records_by_entries}
use Rattle.shelf_holdings.proofs.RecordLaws.{by_entries}

-- V's geometry, and a hard disk's: two bytes a block number
abbrev pub sizes : Geometry
sizes = geometry_of 1024 40 1

abbrev hard : Geometry
hard = geometry_of 2048 257 1

-- four extents to an entry
abbrev pub large : Geometry
large = geometry_of 4096 4 1

-- an entry of SIGLA.TXT of a user, in extent ex, that counts rc records, with these first six bytes of its map
abbrev with_map : ℕ → ℕ → ℕ → ℕ → ℕ → ℕ → ℕ → ℕ → ℕ → Entry
with_map user ex rc b₀ b₁ b₂ b₃ b₄ b₅ =
    user ∷ 83 ∷ 73 ∷ 71 ∷ 76 ∷ 65 ∷ 32 ∷ 32 ∷ 32 ∷ 84 ∷ 88 ∷ 84 ∷ ex ∷ 0 ∷ 0 ∷ rc
    ∷ b₀ ∷ b₁ ∷ b₂ ∷ b₃ ∷ b₄ ∷ b₅ ∷ 0 ∷ 0 ∷ 0 ∷ 0 ∷ 0 ∷ 0 ∷ 0 ∷ 0 ∷ 0 ∷ 0 ∷ []

-- with blocks b and c in places 0 and 2
abbrev pub sigla : ℕ → ℕ → ℕ → ℕ → ℕ → Entry
sigla user ex rc b c = with_map user ex rc b 0 c 0 0 0

-- V with these entries in its first slots
abbrev pub volume : List ℕ → List ℕ
volume slots-first = slots-first ++ replicate (40960 - length slots-first) 229

-- after the writes 0, 20 and 128 of 01's examples; with the same name of another user, nothing written; a user that there is not
abbrev pub written : List ℕ
written = sigla 0 0 21 1 2 ++ sigla 0 1 1 3 0

abbrev another : List ℕ
another = written ++ sigla 1 0 0 0 0

-- the second of its two entries read-only: a T with its top bit
abbrev marked : List ℕ
marked = sigla 0 0 21 1 2 ++ set (sigla 0 1 1 3 0) T1 212

-- a third entry, of extent 32, that counts five records
abbrev far : List ℕ
far = written ++ set (sigla 0 0 5 4 0) S2 1

abbrev pub bad : List ℕ
bad = sigla 16 0 0 0 0

-- the directory of the hard disk with blocks 256 and 1 in places 0 and 2, low byte first; the figures look at nothing else
abbrev hard_disk : List ℕ
hard_disk = with_map 1 0 40 0 1 0 0 1 0 ++ replicate (2048 - 32) 229

-- a disk of large blocks, whole: extent 1 counts 7 records, and places 0 and 4 have blocks
abbrev pub large_disk : List ℕ
large_disk = with_map 0 1 7 1 0 0 0 2 0 ++ replicate (4 * 4096 - 32) 229

-- a floppy's image to the end of track 2 with one entry, in the first slot of logical record 1: sector 7 of that track
abbrev image : List ℕ
image = replicate 7424 229 ++ sigla 0 0 21 2 242 ++ replicate (9984 - 7456) 229

-- ---- evaluated: all figures of a volume, the records entry by entry
record Figures (g : Geometry) (v : List ℕ) (all_of : Holdings) : Type 0 where
  law : lawful g ≡ true
  accepted : lowest_bad g v ≡ slots g
  files_are : files g v ≡ all_of.files
  entries_are : entries g v ≡ all_of.entries
  records_are : records_by_entries g v ≡ all_of.records
  held_are_lem : blocks_held g v ≡ all_of.held
  free_are : blocks_free g v ≡ all_of.free
  waste_is : all_of.held * records g - all_of.records ≡ all_of.waste

abbrev pub figures : ℕ → ℕ → ℕ → ℕ → ℕ → ℕ → Holdings
figures f e r h n w = record { files = f; entries = e; records = r; held = h; free = n; waste = w }

record OnV : Type 0 where
  empty : Figures sizes (volume []) (figures 0 0 0 0 39 0)
  three_writes : Figures sizes (volume written) (figures 1 2 14 3 36 10)
  top_bit : Figures sizes (volume marked) (figures 1 2 14 3 36 10)
  high_extent : Figures sizes (volume far) (figures 1 3 19 4 35 13)
  two_files_lem : Figures sizes (volume another) (figures 2 3 14 3 36 10)
  bad_slot_lem : lowest_bad sizes (volume bad) ≡ 0

record OnOthers : Type 0 where
  hard_disk_lem : Figures hard hard_disk (figures 1 1 24 2 254 8)
  on_floppy_lem : Figures floppy image (figures 1 1 13 2 239 3)
  four_extents : Figures large large_disk (figures 1 1 39 2 1 25)

on-V : OnV
unfolding lawful lowest_bad good_slot good_fields good_top_bits good_place in_places names_block named_below seen_below named low_from any_from every_from count_from sum_from part all image_start start slot_start group_of inside strip name_at same good_name places block_in of_file of_group slot_at find_slot is_listed files entries place_records entry_records slot_records records_by_entries blocks_held blocks_free
on-V =
    record {
      empty = record { law = refl; accepted = refl; files_are = refl; entries_are = refl; records_are = refl; held_are_lem = refl; free_are = refl; waste_is = refl };
      three_writes = record { law = refl; accepted = refl; files_are = refl; entries_are = refl; records_are = refl; held_are_lem = refl; free_are = refl; waste_is = refl };
      top_bit = record { law = refl; accepted = refl; files_are = refl; entries_are = refl; records_are = refl; held_are_lem = refl; free_are = refl; waste_is = refl };
      high_extent = record { law = refl; accepted = refl; files_are = refl; entries_are = refl; records_are = refl; held_are_lem = refl; free_are = refl; waste_is = refl };
      two_files_lem = record { law = refl; accepted = refl; files_are = refl; entries_are = refl; records_are = refl; held_are_lem = refl; free_are = refl; waste_is = refl };
      bad_slot_lem = refl;
    }

on_others : OnOthers
unfolding lawful lowest_bad good_slot good_fields good_top_bits good_place in_places names_block named_below seen_below named low_from any_from every_from count_from sum_from part all image_start start slot_start group_of inside strip name_at same good_name places block_in of_file of_group slot_at find_slot is_listed files entries place_records entry_records slot_records records_by_entries blocks_held blocks_free
on_others =
    record {
      hard_disk_lem = record { law = refl; accepted = refl; files_are = refl; entries_are = refl; records_are = refl; held_are_lem = refl; free_are = refl; waste_is = refl };
      on_floppy_lem = record { law = refl; accepted = refl; files_are = refl; entries_are = refl; records_are = refl; held_are_lem = refl; free_are = refl; waste_is = refl };
      four_extents = record { law = refl; accepted = refl; files_are = refl; entries_are = refl; records_are = refl; held_are_lem = refl; free_are = refl; waste_is = refl };
    }

-- ---- so they are the figures of the definition, whose records are counted file by file
so : (g : Geometry) (v : List ℕ) (all_of : Holdings) → Figures g v all_of → holdings g v ≡ all_of
unfolding holdings waste
so g v all_of known =
    let p : records_present g v ≡ all_of.records = by_entries g v known.law known.accepted ∙ known.records_are in
    rw (known.files_are, known.entries_are, p, known.held_are_lem, known.free_are, known.waste_is)

pub record Examples : Type 0 where
  pub empty : holdings sizes (volume []) ≡ figures 0 0 0 0 39 0
  -- records 0 to 7, 16 to 20 and 128: fourteen in three blocks
  pub three_writes : holdings sizes (volume written) ≡ figures 1 2 14 3 36 10
  -- a top bit is no part of the name: still one file
  pub top_bit : holdings sizes (volume marked) ≡ figures 1 2 14 3 36 10
  -- records 4,096 to 4,100 too, in a fourth block: s2 counts for 32 extents
  pub high_extent : holdings sizes (volume far) ≡ figures 1 3 19 4 35 13
  -- a file without records
  pub two_files_lem : holdings sizes (volume another) ≡ figures 2 3 14 3 36 10
  -- records 0 to 15 and 32 to 39, in two blocks of sixteen
  pub hard_disk_lem : holdings hard hard_disk ≡ figures 1 1 24 2 254 8
  -- records 0 to 7 and 16 to 20
  pub on_floppy_lem : holdings floppy image ≡ figures 1 1 13 2 239 3
  -- records 0 to 31 of extent 0, which counts whole, and 128 to 134
  pub four_extents : holdings large large_disk ≡ figures 1 1 39 2 1 25
  -- which of them inspection accepts
  pub good_slots : lowest_bad sizes (volume written) ≡ 32
  pub good_large : lowest_bad large large_disk ≡ 128
  pub bad_slot_lem : lowest_bad sizes (volume bad) ≡ 0

pub examples : Examples
examples =
    record {
      empty = so sizes (volume []) _ on-V.empty;
      three_writes = so sizes (volume written) _ on-V.three_writes;
      top_bit = so sizes (volume marked) _ on-V.top_bit;
      high_extent = so sizes (volume far) _ on-V.high_extent;
      two_files_lem = so sizes (volume another) _ on-V.two_files_lem;
      hard_disk_lem = so hard hard_disk _ on_others.hard_disk_lem;
      on_floppy_lem = so floppy image _ on_others.on_floppy_lem;
      four_extents = so large large_disk _ on_others.four_extents;
      good_slots = on-V.three_writes.accepted;
      good_large = on_others.four_extents.accepted;
      bad_slot_lem = on-V.bad_slot_lem;
    }
