-- The copy of a worn disk and its refusals in their order, evaluated on the disks of `fresh_volume/proofs/Examples`.
use mathlib.Core.Path.{◌≡◌, refl}
use mathlib.Core.List.{List, [], ◌∷◌, ◌++◌}
use lib.ListN.{take}
use Prim.Native.Nat.{ℕ}
use Rattle.lists.specs.Bounded.{low_from, any_from, every_from, count_from, fold}
use Rattle.lists.specs.Bytes.{part, put, all}
use Rattle.disk_geometry.specs.Geometry.{lawful, bytes, start, slot_start, record_start, group_of, inside, places, geometry_of}
use Rattle.disk_volume.specs.Name.{strip, name_at, same, good_name}
use Rattle.disk_volume.specs.Entry.{block_in, with_block, of_file, of_group}
use Rattle.disk_volume.specs.Directory.{slot_at, find_slot, put_slot}
use Rattle.disk_volume.specs.Record.{record_at, put_record}
use Rattle.disk_held.specs.Held.{digit, holds, word_of, words_from, words_of, free_count}
use Rattle.disk_rules.specs.GoodSlot.{good_fields, good_top_bits, in_places, names_block, named_below, good_place, seen_below, good_slot, lowest_bad}
use Rattle.disk_rules.specs.Named.{named, held_of}
use Rattle.call_answers.specs.declared.Refusal.TheVariants.{Closed, VolumeLength}
use Rattle.call_answers.specs.declared.Answer.TheVariants.{Ready, BadSlot, Refused}
use Rattle.call_answers.specs.Refusal.{first_met}
use Rattle.filecalls.specs.LogIn.{log_in, log_in_tests, refused_log_in}
use Rattle.fresh_order.specs.Order.{file_slot, goes_before, put_before, enter, order}
use Rattle.fresh_volume.specs.Copy.{blocks_below, number_place, numbered, blocks_before, copied_entry, copied_record, put_block, laid_out, fresh}
use Rattle.fresh_volume.proofs.Examples.{G, SIGLA, COLLA, entry, gone, directory, seven, worn, good, second}
use Rattle.fresh_copy.specs.FreshCopy.{copied, fresh_copy}

-- block 5 belongs to slot 0 and to slot 2
abbrev pub twice : List ℕ
twice = directory (entry SIGLA 1 4 5 0 ++ gone ++ entry COLLA 0 21 3 5) ++ seven 1 2 3 4 5 6 7

pub record Examples : Type 0 where
  -- blocks 6 and 7 of the copy are free
  pub done : fresh_copy G worn second ≡ copied (Ready 2) worn good
  -- 32, 33 and 36 for the first, as log-in answers, though the second is too short; then 33 for the second
  pub no_geometry : fresh_copy (geometry_of 1024 8 8) worn [] ≡ copied (Refused Closed) worn []
  pub first_short : fresh_copy G (take 100 worn) [] ≡ copied (Refused VolumeLength) (take 100 worn) []
  pub bad_slot_lem : fresh_copy G twice [] ≡ copied (BadSlot 2) twice []
  pub second_short : fresh_copy G worn (take 100 second) ≡ copied (Refused VolumeLength) worn (take 100 second)
  pub second_long : fresh_copy G worn (second ++ (0 ∷ [])) ≡ copied (Refused VolumeLength) worn (second ++ (0 ∷ []))

pub examples : Examples
unfolding fresh_copy log_in log_in_tests refused_log_in first_met lawful bytes held_of named words_of words_from word_of free_count holds digit order enter put_before goes_before file_slot fresh laid_out put_block copied_record copied_entry blocks_before numbered number_place blocks_below find_slot slot_at put_slot record_at put_record lowest_bad good_slot good_fields good_top_bits in_places names_block named_below good_place seen_below low_from any_from every_from count_from fold part put all start slot_start record_start group_of inside places strip name_at same good_name block_in with_block of_file of_group
examples = record { done = refl; no_geometry = refl; first_short = refl; bad_slot_lem = refl; second_short = refl; second_long = refl }
