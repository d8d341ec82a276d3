-- What is said of a copy shuts out wrong ones: of each of eleven it is shown to be false, ten on the worn disks of
-- `fresh_volume/proofs/Examples` and one on an eight-inch image.
use mathlib.Core.Path.{◌≡◌, refl, sym, ap, ◌∙◌}
use mathlib.Core.Bool.{true, false, true≢false}
use mathlib.Core.List.{List}
use Prim.Native.Nat.{ℕ, ◌*◌, ◌<◌}
use native.Mathlib.Omega.{arith}
use lib.Dec.{eqb}
use lib.ListN.{take, replicate}
use borrow.Author.Tests.{eq-eqb}
use Rattle.lists.specs.Bounded.{low_from}
use Rattle.lists.specs.Bytes.{byte, part}
use Rattle.disk_geometry.specs.EightInch.{image_bytes, reserved_bytes}
use Rattle.disk_geometry.specs.Geometry.{start, slot_start, record_start, group_of, places, place_of}
use Rattle.disk_volume.specs.Fields.{EMPTY}
use Rattle.disk_volume.specs.Name.{strip, name_at, same}
use Rattle.disk_volume.specs.Entry.{block_in, of_file, of_group}
use Rattle.disk_volume.specs.Directory.{slot_at, find_slot}
use Rattle.disk_volume.specs.Record.{record_slot, record_at}
use Rattle.files.specs.Files.{is_used}
use Rattle.fresh_volume.specs.Copy.{fresh}
use Rattle.fresh_volume.proofs.Examples.{G, COLLA, name, worn, deep, second, drops, keeps, in_place, anew, holds_more, by_slot, leaves, adds, counted_alone, unmarked, examples, wrong_disks}
use Rattle.fresh_holds.specs.Holds.{file_record, HoldsOf, SpareOf}

-- a way to copy that gives this disk
abbrev Gives : List ℕ → Type 0
Gives d = HoldsOf (λ g v w. d) G worn second

pub record WrongCopies : Type 0 where
  pub drops_a_file : Gives drops → ⊥
  -- one moves the blocks, one leaves them where they were
  pub keeps_block_numbers : Gives keeps → ⊥
  pub keeps_blocks_in_place : Gives in_place → ⊥
  pub numbers_each_file_anew : Gives anew → ⊥
  pub holds_a_block_more : Gives holds_more → ⊥
  pub orders_by_slot_alone : Gives by_slot → ⊥
  pub leaves_old_bytes : Gives leaves → ⊥
  -- a file without records is added; what a block has behind the last record counted is lost
  pub adds_a_file : Gives adds → ⊥
  pub copies_counted_records_alone : Gives counted_alone → ⊥
  -- a mark is lost of a disk that has one
  pub loses_a_mark : HoldsOf (λ g v w. unmarked) G deep second → ⊥
  -- the whole image is made blank, its reserved tracks too
  pub blanks_reserved_tracks : SpareOf (λ g v w. replicate image_bytes EMPTY) worn (replicate image_bytes 170) → ⊥

-- record 16 of COLLA.TXT has other bytes where the numbers were kept
other_bytes_lem : eqb (byte (file_record G keeps 0 (name COLLA) 16) 0) (byte (file_record G worn 0 (name COLLA) 16) 0) ≡ false
unfolding low_from part start slot_start record_start group_of place_of strip name_at same block_in of_file of_group slot_at find_slot record_slot record_at
other_bytes_lem = refl

-- the second entry in order is slot 0, whose byte 9 has its top bit
other_mark : eqb (byte (take 16 (slot_at G unmarked 1)) 9) (byte (take 16 (slot_at G deep 0)) 9) ≡ false
unfolding part start slot_start slot_at
other_mark = refl

-- slot 3, behind the three entries, is not empty
one_more : eqb (byte (slot_at G adds 3) 0) (byte (replicate 32 229) 0) ≡ false
unfolding part start slot_start slot_at
one_more = refl

-- record 5 of the block in place 2 of COLLA.TXT, the third entry in order: block 5 of the copy, block 2 of the worn disk
lost : eqb (byte (record_at G counted_alone (block_in G (slot_at G counted_alone 2) 2) 5) 0) (byte (record_at G worn (block_in G (slot_at G worn 2) 2) 5) 0) ≡ false
unfolding part start slot_start record_start block_in slot_at record_at
lost = refl

in_use : is_used G (slot_at G worn 2) 2 ≡ true
unfolding part start slot_start block_in slot_at
in_use = refl

some_places : 2 < places G
unfolding places
some_places = omega arith

blanked : eqb (byte (part (replicate image_bytes EMPTY) 0 reserved_bytes) 0) (byte (part (replicate image_bytes 170) 0 reserved_bytes) 0) ≡ false
unfolding part
blanked = refl

differ : (a b : List ℕ) (k : ℕ) → eqb (byte a k) (byte b k) ≡ false → a ≡ b → ⊥
differ a b k d e = true≢false (sym (eq-eqb (byte a k) (byte b k) (ap (λ (l : List ℕ). byte l k) e)) ∙ d)

pub wrong_copies : WrongCopies
wrong_copies = record {
  drops_a_file = λ h. true≢false (sym examples.there ∙ sym (h.same_present 0 (name COLLA) 16 (omega arith)) ∙ wrong_disks.drops_a_file);
  keeps_block_numbers = λ h. differ (file_record G keeps 0 (name COLLA) 16) (file_record G worn 0 (name COLLA) 16) 0 other_bytes_lem (h.same_bytes 0 (name COLLA) 16 (omega arith) examples.there);
  keeps_blocks_in_place = λ h. differ (fresh G in_place second) in_place 16 wrong_disks.in_place_again h.again;
  numbers_each_file_anew = λ h. omega (arith, wrong_disks.numbers_anew, h.passes);
  holds_a_block_more = λ h. omega (arith, wrong_disks.holds_more_free, wrong_disks.worn_free, h.as_many_free);
  orders_by_slot_alone = λ h. differ (fresh G by_slot second) by_slot 12 wrong_disks.by_slot_alone h.again;
  leaves_old_bytes = λ h. differ (fresh G leaves second) leaves (6 * 1024) wrong_disks.leaves_old_bytes h.again;
  adds_a_file = λ h. differ (slot_at G adds 3) (replicate 32 229) 0 one_more (h.no_more 3 (rw examples.in_order (omega arith)) (omega arith));
  copies_counted_records_alone = λ h.
      differ (record_at G counted_alone (block_in G (slot_at G counted_alone 2) 2) 5) (record_at G worn (block_in G (slot_at G worn 2) 2) 5) 0 lost
      (rw examples.in_order at (h.same_blocks 2 2 5 (rw examples.in_order (omega arith)) some_places (rw examples.in_order in_use)));
  loses_a_mark = λ h. differ (take 16 (slot_at G unmarked 1)) (take 16 (slot_at G deep 0)) 9 other_mark (rw examples.deep_in_order at (h.same_heads 1 (rw examples.deep_in_order (omega arith))));
  blanks_reserved_tracks = λ h. differ (part (replicate image_bytes EMPTY) 0 reserved_bytes) (part (replicate image_bytes 170) 0 reserved_bytes) 0 blanked h.reserved;
}
