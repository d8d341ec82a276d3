-- The theorem on one text, evaluated, worked out by hand from 02 and from 000, 3.7 and 4.2: what it asks can be met, the file is on the volume as it
-- was written, and load leaves the bytes of the lines behind the base page's offset 2FH.
use mathlib.Core.Path.{◌≡◌, refl}
use mathlib.Core.Bool.{true}
use mathlib.Core.List.{List, [], ◌∷◌, ◌++◌}
use Prim.Native.Nat.{ℕ}
use lib.ListN.{length, replicate}
use native.Mathlib.Omega.{arith}
use Rattle.std.specs.Prelude.{Ok, is_none}
use Rattle.lists.specs.Bounded.{low_from, any_from, every_from, fold}
use Rattle.lists.specs.Bytes.{part, put, all}
use Rattle.numbers.specs.Numbers.{bytes_of, number}
use Rattle.text.specs.Letters.{letters}
use Rattle.joined.specs.Joined.{joined}
use Rattle.disk_geometry.specs.Geometry.{geometry_of, lawful, bytes, start, slot_start, record_start, group_of, place_of, inside, places}
use Rattle.disk_volume.specs.Name.{strip, name_at, same, good_name}
use Rattle.disk_volume.specs.Entry.{block_in, count_of, of_file, of_group}
use Rattle.disk_volume.specs.Directory.{slot_at, find_slot}
use Rattle.disk_volume.specs.Record.{record_slot, counted, present, record_at}
use Rattle.call_fcb.specs.Fcb.{random, set_to, with_random}
use Rattle.call_answers.specs.Refusal.{first_met}
use Rattle.call_read.specs.Read.{read_block, read_tests, read_bytes}
use Rattle.call_size.specs.Size.{entry_end, larger, size_of}
use Rattle.filecalls.specs.declared.Drive.{Drive}
use Rattle.filecalls.specs.State.{is_open, logged_in}
use Rattle.filecalls.specs.Outcome.{outcome, unless}
use Rattle.filecalls.specs.Read.{random_tests, read_done, read_random_act}
use Rattle.filecalls.specs.Open.{size_act, size_tests}
use Rattle.memory_spans.specs.declared.Span.{Span}
use Rattle.memory_spans.specs.Span.{span, covers, overlap, lies_in, any_of, all_of, most_of}
use Rattle.memory_spans.specs.Rules as rules
use Rattle.memory_spans.specs.Room.{taken, free_in, run, room, has_room}
use Rattle.memory_room.specs.Starts.{lowest_start, grant_at, grant_of}
use Rattle.memory_regions.specs.Places.{padded}
use Rattle.memory_calls.specs.declared.Table.{Table}
use Rattle.memory_calls.specs.Table.{within_rules}
use Rattle.load_header.specs.Header as header
use Rattle.load_grants.specs.Grants.{followed, grants}
use Rattle.load_records.specs.Records.{shown, measured, first_from, read_why, image}
use Rattle.loading.specs.Page.{region_of, shown_of, last_of, field_of, field, base_page, page_start}
use Rattle.loading.specs.Laid.{group_laid, laid, with_page}
use Rattle.loading.specs.Load.{after, loaded, placed, load}
use Rattle.gencmd_lines.specs.Digits.{digit_of, line_byte}
use Rattle.gencmd_lines.specs.Line.{is_spelled, sum_from, sum_of, group_of_type, data_refusal, line_refusal}
use Rattle.gencmd_lines.specs.Lines.{lines_in, lines_from, lines_refusal, data_lines}
use Rattle.gencmd_groups.specs.Groups.{given, byte_at, list_from, reach_of, sizes_of}
use Rattle.gencmd_file.specs.File as file
use Rattle.gencmd_file.specs.Gencmd.{refusal_of}
use Rattle.gencmd_loads.specs.Loads.{OnVolume, HasRoom, header_of}

-- code alone: 11H at 002FH, the last byte that load writes itself, 22H behind it, 33H at 00FFH. 02 + 2F + 11 + 22 = 64, 01 + FF + 33 = 133
abbrev text : List ℕ
text = letters ":02002F0011229C\n:0100FF0033CD\n:00000001FF\n"

-- its file: 10H paragraphs, anywhere; 128 + 256 bytes are 3 records
abbrev head : List ℕ
head = 0x01 ∷ 0x10 ∷ 0 ∷ 0 ∷ 0 ∷ 0x10 ∷ 0 ∷ 0x10 ∷ 0 ∷ replicate 119 0

abbrev code : List ℕ
code = replicate 47 0 ++ (0x11 ∷ 0x22 ∷ replicate 206 0) ++ (0x33 ∷ [])

-- SIGLA.CMD has 3 records, all in block 1, of a volume with B 1,024, T 2 and D 1
abbrev name : List ℕ
name = letters "SIGLA   CMD"

abbrev drive : Drive
drive = logged_in (geometry_of 1024 2 1) (2 ∷ replicate 63 0)

abbrev volume : List ℕ
volume =
    (0 ∷ name) ++ (0 ∷ 0 ∷ 0 ∷ 3 ∷ 1 ∷ replicate 15 0) ++ replicate 992 0xE5 ++ (head ++ code) ++ replicate 640 0x44

abbrev fcb : List ℕ
fcb = (0 ∷ name) ++ replicate 24 255

-- one piece of 10H paragraphs from 0002H on, and these regions
abbrev table : List Span → Table
table l = record { pieces = padded 8 (span 0x02 0x10 ∷ []); used = 1; regions = padded 8 l; granted = length l }

abbrev memory : List ℕ
memory = replicate 304 0xAA

-- LC is FFH, BC 0002H and M80 1, data as code; from offset 30H on the bytes of the lines; around the region all stays
abbrev filled : List ℕ
filled =
    replicate 32 0xAA ++ (0xFF ∷ 0 ∷ 0 ∷ 0x02 ∷ 0 ∷ 1 ∷ 0xFF ∷ 0 ∷ 0 ∷ 0x02 ∷ 0 ∷ 0 ∷ replicate 36 0)
    ++ (0x22 ∷ replicate 206 0) ++ (0x33 ∷ []) ++ replicate 16 0xAA

-- ---- what the theorem asks
made : (is_none (refusal_of text 384) ≡ true) × ((file.file_of (lines_in text) ≡ head ++ code) × (header_of text ≡ head))
unfolding every_from bytes_of digit_of line_byte is_spelled sum_from sum_of group_of_type data_refusal line_refusal lines_from lines_refusal data_lines given byte_at list_from reach_of sizes_of file.descriptor file.descriptors file.header file.image file.file_with refusal_of
made = (refl, (refl, refl))

on_volume : OnVolume (head ++ code) drive volume fcb
unfolding low_from any_from every_from fold part put all number joined lawful bytes start slot_start record_start group_of place_of inside places strip name_at same good_name block_in count_of of_file of_group slot_at find_slot record_slot counted present record_at random set_to with_random first_met read_block read_tests read_bytes entry_end larger size_of is_open outcome unless random_tests read_done read_random_act size_act size_tests shown measured first_from read_why image
on_volume = record { read = refl; bytes = refl }

one : header.groups head ≡ 1
unfolding low_from header.groups
one = refl

has_room_lem : HasRoom (length memory) head (table [])
unfolding low_from covers overlap lies_in any_of all_of most_of rules.apart rules.lawful taken free_in run room has_room lowest_start grant_at grant_of padded within_rules header.groups followed grants
has_room_lem = record { rules = refl; left = omega (arith, one); all = refl }

-- ---- what load leaves: the paragraph of the base page, the region, every byte
loads : load drive volume fcb (table []) memory
    ≡ after (record { answer = Ok 0x02; table = table (span 0x02 0x10 ∷ []) }) filled
unfolding low_from any_from every_from fold part put all bytes_of number joined lawful bytes start slot_start record_start group_of place_of inside places strip name_at same good_name block_in count_of of_file of_group slot_at find_slot record_slot counted present record_at random set_to with_random first_met read_block read_tests read_bytes entry_end larger size_of is_open outcome unless random_tests read_done read_random_act size_act size_tests covers overlap lies_in any_of all_of most_of rules.apart rules.lawful taken free_in run room has_room lowest_start grant_at grant_of padded within_rules header.groups header.type_at header.good_group header.place_of header.page_place header.good_header header.image_start followed grants shown measured first_from read_why image region_of shown_of last_of field_of field base_page page_start group_laid laid with_page loaded placed load
loads = refl
