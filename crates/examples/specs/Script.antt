-- Scripts: calls one after the other, each given the state and the volume that the last one left, with what each answers
-- and bytes that it leaves. `seen` performs the calls by their definitions, `told` is what the script says; a script holds
-- where the two are equal.
use Rattle.std.specs.Prelude.{cond, List, [], ◌∷◌, ◌++◌, ℕ, length, take, replicate}
use Rattle.lists.specs.Bounded.{low_from, any_from, every_from, count_from, fold}
use Rattle.lists.specs.Bytes.{part, put, all}
use Rattle.disk_geometry.specs.declared.Geometry.{Geometry}
use Rattle.disk_geometry.specs.Geometry.{lawful, bytes, start, slots, slot_start, record_start, group_of, place_of, inside, places}
use Rattle.disk_volume.specs.Name.{strip, name_at, same, like, good_name}
use Rattle.call_typing.specs.Typing.{typeable_byte, blank_before, typeable}
use Rattle.disk_volume.specs.Entry.{block_in, with_block, count_of, of_file, of_group, matches}
use Rattle.disk_volume.specs.Directory.{slot_at, put_slot, find_slot, map_slot}
use Rattle.disk_volume.specs.Record.{record_slot, counted, present, record_at, put_record, fill_record, put_filled, slot_record}
use Rattle.disk_held.specs.Held.{held_words, digit, holds, hold, release, word_of, words_of, lowest_free, free_count}
use Rattle.call_fcb.specs.Fcb.{position, random, set_to, opened, made, with_random}
use Rattle.call_answers.specs.declared.Refusal.TheVariants.{Closed}
use Rattle.call_answers.specs.declared.Answer.{Answer}
use Rattle.call_answers.specs.declared.Answer.TheVariants.{Refused}
use Rattle.call_answers.specs.Refusal.{first_met}
use Rattle.call_answers.specs.Answer.{number_of, value_of, succeeded}
use Rattle.disk_rules.specs.GoodSlot.{good_fields, good_top_bits, in_places, names_block, named_below, good_place, seen_below, good_slot, lowest_bad}
use Rattle.disk_rules.specs.Named.{named, held_of}
use Rattle.call_open.specs.Open.{open_slot, close_slot}
use Rattle.call_search.specs.Search.{pattern_of, hit_from}
use Rattle.call_size.specs.Size.{entry_end, larger, size_of}
use Rattle.call_read.specs.Read.{read_block, read_tests, read_bytes}
use Rattle.call_sweep.specs.Sweep.{renamed, attributed, changed}
use Rattle.call_delete.specs.Delete.{delete_tests, free_place, free_entry, free_slot, free_matches}
use Rattle.call_make.specs.Make.{make_tests, fresh_entry}
use Rattle.call_rename.specs.Rename.{rename_tests}
use Rattle.call_decide.specs.Write.{write_slot, base_entry, needs_block, write_block, write_tests}
use Rattle.call_entry.specs.Grown.{like_entry, grown, written_entry}
use Rattle.call_entry.specs.Alloc.{alloc}
use Rattle.filecalls.specs.Leaves.{read_sequential_leaves, write_sequential_leaves}
use Rattle.filecalls.specs.declared.Drive.{Drive}
use Rattle.filecalls.specs.State.{is_open, closed}
use Rattle.disk_stores.specs.Pieces.{map_piece}
use Rattle.disk_stores.specs.Stores.{laid, fill_stores, record_stores, entry_stores, sweep_stores}
use Rattle.filecalls.specs.Outcome.{Outcome, outcome, left, unless, changed_state}
use Rattle.filecalls.specs.LogIn.{log_in as log_in_reply, log_in_tests, refused_log_in}
use Rattle.filecalls.specs.Open.{open_tests, open_act, close_tests, close_act, size_tests, size_act}
use Rattle.filecalls.specs.Search.{kept_at, new_search, hit_act, first_tests, search_first_act, next_tests, search_next_act}
use Rattle.filecalls.specs.Names.{delete_ladder, delete_act, make_ladder, make_act, rename_ladder, rename_act, attributes_ladder, attributes_act}
use Rattle.filecalls.specs.Read.{sequential_tests, random_tests, read_done, read_sequential_act, read_random_act}
use Rattle.filecalls.specs.Write.{write_entry, write_done, write_sequential_act, write_random_act, write_zero_fill_act}
use Rattle.filecalls.specs.Small.{protect_tests, protect_act, user_tests, user_act, set_random_tests, set_random_act}
use Rattle.several.specs.Several.{on_piece, singles, several, several_tests}

-- The calls that we serve, each with what it is lent beside the volume: a control block, a transfer buffer; those of several
-- records have their number first.
pub data Call : Type 0 where
  log_in : Geometry → Call
  open_file : List ℕ → Call
  close_file : List ℕ → Call
  search_first : List ℕ → List ℕ → Call
  search_next : List ℕ → Call
  delete : List ℕ → Call
  read_next : List ℕ → List ℕ → Call
  write_next : List ℕ → List ℕ → Call
  make : List ℕ → Call
  rename : List ℕ → Call
  protect : Call
  attributes : List ℕ → Call
  user : ℕ → Call
  read : List ℕ → List ℕ → Call
  write : List ℕ → List ℕ → Call
  size : List ℕ → Call
  set_random : List ℕ → Call
  write_zero_fill : List ℕ → List ℕ → Call
  read_several : ℕ → List ℕ → List ℕ → Call
  write_several : ℕ → List ℕ → List ℕ → Call

-- all that a call leaves, by its definition
unfoldable pub perform : Call → Drive → List ℕ → Outcome
perform (log_in g) d v = left (log_in_reply g v) v [] []
perform (open_file fcb) d v = outcome d v fcb [] (open_act d v fcb)
perform (close_file fcb) d v = outcome d v fcb [] (close_act d v fcb)
perform (search_first fcb b) d v = outcome d v fcb b (search_first_act d v fcb b)
perform (search_next b) d v = outcome d v [] b (search_next_act d v b)
perform (delete fcb) d v = outcome d v fcb [] (delete_act d v fcb)
perform (read_next fcb b) d v = outcome d v fcb b (read_sequential_act d v fcb b)
perform (write_next fcb b) d v = outcome d v fcb b (write_sequential_act d v fcb b)
perform (make fcb) d v = outcome d v fcb [] (make_act d v fcb)
perform (rename fcb) d v = outcome d v fcb [] (rename_act d v fcb)
perform protect d v = outcome d v [] [] (protect_act d)
perform (attributes fcb) d v = outcome d v fcb [] (attributes_act d v fcb)
perform (user u) d v = outcome d v [] [] (user_act d u)
perform (read fcb b) d v = outcome d v fcb b (read_random_act d v fcb b)
perform (write fcb b) d v = outcome d v fcb b (write_random_act d v fcb b)
perform (size fcb) d v = outcome d v fcb [] (size_act d v fcb)
perform (set_random fcb) d v = outcome d v fcb [] (set_random_act d fcb)
perform (write_zero_fill fcb b) d v = outcome d v fcb b (write_zero_fill_act d v fcb b)
perform (read_several k fcb b) d v = several read_sequential_leaves d v fcb b k
perform (write_several k fcb b) d v = several write_sequential_leaves d v fcb b k

-- What a call answers: whether it succeeded, the number, and the value beside it.
abbrev pub answered : Answer → List ℕ
answered a = cond (succeeded a) 1 0 ∷ number_of a ∷ value_of a ∷ []

-- done with a code, logged in with so many free blocks, refused by a number, refused for a bad slot
abbrev pub done : ℕ → List ℕ
done code = 1 ∷ code ∷ 0 ∷ []

abbrev pub free : ℕ → List ℕ
free blocks = 1 ∷ 0 ∷ blocks ∷ []

abbrev pub refused : ℕ → List ℕ
refused number = 0 ∷ number ∷ 0 ∷ []

abbrev pub bad_slot : ℕ → List ℕ
bad_slot slot = 0 ∷ 36 ∷ slot ∷ []

-- so many records done, at least one, and the number that stopped the call
abbrev pub some_done : ℕ → ℕ → List ℕ
some_done count number = 1 ∷ number ∷ count ∷ []

-- A line of a script: a call with what it answers; another volume that is lent from here on; or something to be seen after
-- the last call: the number of slots, the words of the held blocks (those not named are 0), bytes of the volume or of the control block from a
-- place on, the whole control block, the whole transfer buffer.
pub data Line : Type 0 where
  call : Call → List ℕ → Line
  altered : List ℕ → Line
  slots_are : ℕ → Line
  held_are : List ℕ → Line
  volume_at : ℕ → List ℕ → Line
  fcb_at : ℕ → List ℕ → Line
  fcb_is : List ℕ → Line
  buffer_is : List ℕ → Line

-- what the lines show by the definitions, after a last call that left o
unfoldable pub seen_after : Outcome → List Line → List (List ℕ)
seen_after o [] = []
seen_after o (call c answer ∷ ls) =
    let next : Outcome = perform c o.drive o.volume in
    answered next.answer ∷ seen_after next ls
seen_after o (altered v ∷ ls) =
    seen_after (record { answer = o.answer; drive = o.drive; volume = v; fcb = o.fcb; buffer = o.buffer }) ls
seen_after o (slots_are n ∷ ls) = (slots o.drive.geometry ∷ []) ∷ seen_after o ls
seen_after o (held_are l ∷ ls) = o.drive.held ∷ seen_after o ls
seen_after o (volume_at a l ∷ ls) = part o.volume a (length l) ∷ seen_after o ls
seen_after o (fcb_at a l ∷ ls) = part o.fcb a (length l) ∷ seen_after o ls
seen_after o (fcb_is l ∷ ls) = o.fcb ∷ seen_after o ls
seen_after o (buffer_is l ∷ ls) = o.buffer ∷ seen_after o ls

-- the words of a state, by the first of them: the others are 0
abbrev pub words : List ℕ → List ℕ
words first = take held_words (first ++ replicate held_words 0)

-- what the lines say
unfoldable pub told_by : List Line → List (List ℕ)
told_by [] = []
told_by (call c answer ∷ ls) = answer ∷ told_by ls
told_by (altered v ∷ ls) = told_by ls
told_by (slots_are n ∷ ls) = (n ∷ []) ∷ told_by ls
told_by (held_are l ∷ ls) = words l ∷ told_by ls
told_by (volume_at a l ∷ ls) = l ∷ told_by ls
told_by (fcb_at a l ∷ ls) = l ∷ told_by ls
told_by (fcb_is l ∷ ls) = l ∷ told_by ls
told_by (buffer_is l ∷ ls) = l ∷ told_by ls

-- A script: a volume, and lines that begin with it and with the closed state.
pub record Script : Type 0 where
  pub volume : List ℕ
  pub lines : List Line

abbrev pub script : List ℕ → List Line → Script
script volume lines = record { volume = volume; lines = lines }

-- Every call that is lent a volume and a control block, and every call that is lent a transfer buffer too: each refused by
-- the same number.
abbrev pub lent_fcb : List ℕ → ℕ → List Line
lent_fcb fcb number =
    call (open_file fcb) (refused number)
    ∷ call (close_file fcb) (refused number)
    ∷ call (delete fcb) (refused number)
    ∷ call (make fcb) (refused number)
    ∷ call (rename fcb) (refused number)
    ∷ call (attributes fcb) (refused number)
    ∷ call (size fcb) (refused number)
    ∷ []

abbrev pub lent_buffer : List ℕ → List ℕ → ℕ → List Line
lent_buffer fcb b number =
    call (search_first fcb b) (refused number)
    ∷ call (read_next fcb b) (refused number)
    ∷ call (write_next fcb b) (refused number)
    ∷ call (read fcb b) (refused number)
    ∷ call (write fcb b) (refused number)
    ∷ call (write_zero_fill fcb b) (refused number)
    ∷ []

abbrev pub before : List ℕ → Outcome
before v = record { answer = Refused Closed; drive = closed; volume = v; fcb = []; buffer = [] }

-- Both sides of a statement: what the scripts show, and what they say. To unfold `seen` is to unfold every definition.
unfoldable pub seen : List Script → List (List (List ℕ))
unfolding seen_after perform low_from any_from every_from count_from fold part put all lawful bytes start slot_start record_start group_of place_of inside strip name_at same like good_name typeable typeable_byte blank_before places block_in with_block count_of of_file of_group matches slot_at put_slot find_slot map_slot record_slot counted present record_at put_record fill_record put_filled slot_record digit holds hold release word_of words_of lowest_free free_count position random set_to opened made with_random first_met good_fields good_top_bits in_places names_block named_below good_place seen_below good_slot lowest_bad named held_of open_slot close_slot pattern_of hit_from entry_end larger size_of read_block read_tests read_bytes renamed attributed changed delete_tests free_place free_entry free_slot free_matches make_tests fresh_entry rename_tests alloc like_entry grown write_slot base_entry needs_block write_block written_entry write_tests is_open outcome unless laid fill_stores record_stores entry_stores map_piece sweep_stores changed_state log_in_reply log_in_tests refused_log_in open_tests open_act close_tests close_act size_tests size_act kept_at new_search hit_act first_tests search_first_act next_tests search_next_act delete_ladder delete_act make_ladder make_act rename_ladder rename_act attributes_ladder attributes_act sequential_tests random_tests read_done read_sequential_act read_random_act write_entry write_done write_sequential_act write_random_act write_zero_fill_act protect_tests protect_act user_tests user_act set_random_tests set_random_act on_piece singles several_tests several
seen [] = []
seen (s ∷ ss) = seen_after (before s.volume) s.lines ∷ seen ss

unfoldable pub told : List Script → List (List (List ℕ))
unfolding told_by
told [] = []
told (s ∷ ss) = told_by s.lines ∷ told ss
