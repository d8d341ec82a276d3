-- A load at the seam evaluated, worked out by hand: drive, volume, control block, table and memory are bytes, as C lends them. The volume has B
-- 1,024, T 2 and D 1, and one file, SIGLA.CMD: its header has code alone, four paragraphs of image that need 10H, at 0002H; then follows a
-- record of image, half of it 11H and half 22H. The control block's bytes behind its name are all 255.
use mathlib.Core.Path.{◌≡◌, refl}
use mathlib.Core.List.{List, [], ◌∷◌, ◌++◌}
use Prim.Native.Nat.{ℕ}
use lib.ListN.{replicate, take}
use Rattle.lists.specs.Bounded.{low_from, any_from, every_from, fold}
use Rattle.lists.specs.Bytes.{part, put, all}
use Rattle.numbers.specs.Numbers.{bytes_of, number}
use Rattle.joined.specs.Joined.{joined}
use Rattle.disk_geometry.specs.Geometry.{lawful, bytes, start, slot_start, record_start, group_of, place_of, inside, places}
use Rattle.disk_volume.specs.Name.{strip, name_at, same, good_name}
use Rattle.disk_volume.specs.Entry.{block_in, count_of, of_file, of_group}
use Rattle.disk_volume.specs.Directory.{slot_at, find_slot}
use Rattle.disk_volume.specs.Record.{record_slot, counted, present, record_at}
use Rattle.call_fcb.specs.Fcb.{random, set_to, with_random}
use Rattle.call_answers.specs.declared.Refusal.{Refusal}
use Rattle.call_answers.specs.declared.Refusal.TheVariants.{None, Absent}
use Rattle.call_answers.specs.Refusal.{first_met}
use Rattle.call_read.specs.Read.{read_block, read_tests, read_bytes}
use Rattle.call_size.specs.Size.{entry_end, larger, size_of}
use Rattle.filecalls.specs.State.{is_open}
use Rattle.filecalls.specs.Outcome.{outcome, unless}
use Rattle.filecalls.specs.Read.{random_tests, read_done, read_random_act}
use Rattle.filecalls.specs.Open.{size_act, size_tests}
use Rattle.memory_spans.specs.Span.{covers, overlap, lies_in, any_of, all_of, most_of}
use Rattle.memory_spans.specs.Rules as rules
use Rattle.memory_spans.specs.Room.{taken, free_in, run, room, has_room}
use Rattle.memory_room.specs.Starts.{grant_at, grant_of}
use Rattle.memory_regions.specs.Places.{padded}
use Rattle.memory_calls.specs.Table.{within_rules}
use Rattle.memory_bytes.specs.TableBytes.{spans_at, used_in, table_of, span_laid, spans_laid, table_laid}
use Rattle.load_header.specs.Header as header
use Rattle.load_grants.specs.Grants.{followed, grants}
use Rattle.load_records.specs.Records.{shown, measured, first_from, read_why, image}
use Rattle.loading.specs.Page.{region_of, shown_of, last_of, field_of, field, base_page, page_start}
use Rattle.loading.specs.Laid.{group_laid, laid, with_page}
use Rattle.loading.specs.Load.{loaded, placed, load}
use Rattle.load_bytes.specs.LoadOver.{load_bytes}
use Rattle.drive_bytes.specs.Layout.{kind_stored, words_at, fields, laid_out, is_drive, decoded}
use Rattle.seam_memory.specs.Load.{Started, started, load_answered, load_at_seam}

-- "SIGLA   CMD"
abbrev name : List ℕ
name = 83 ∷ 73 ∷ 71 ∷ 76 ∷ 65 ∷ 32 ∷ 32 ∷ 32 ∷ 67 ∷ 77 ∷ 68 ∷ []

abbrev drive : List ℕ
drive = 0 ∷ 4 ∷ 2 ∷ 0 ∷ 1 ∷ 0 ∷ (replicate 26 0 ++ (2 ∷ replicate 31 0))

-- the entry has that map and so many records; all in block 1
abbrev volume : List ℕ → ℕ → List ℕ
volume map rc =
    (0 ∷ name) ++ (0 ∷ 0 ∷ 0 ∷ rc ∷ map) ++ replicate 992 0xE5
    ++ (0x01 ∷ 0x04 ∷ 0 ∷ 0x02 ∷ 0 ∷ 0x10 ∷ replicate 122 0) ++ (replicate 64 0x11 ++ replicate 64 0x22) ++ replicate 768 0x33

abbrev one : List ℕ
one = 1 ∷ replicate 15 0

abbrev fcb : List ℕ → List ℕ
fcb n = (0 ∷ n) ++ replicate 24 255

-- one piece of so many paragraphs from 0002H on, and no region; or one region, as large as the piece
abbrev table : ℕ → List ℕ
table size = 1 ∷ 0 ∷ 2 ∷ 0 ∷ size ∷ replicate 61 0

abbrev granted : List ℕ
granted = 1 ∷ 1 ∷ 2 ∷ 0 ∷ 0x10 ∷ 0 ∷ (replicate 28 0 ++ (2 ∷ 0 ∷ 0x10 ∷ 0 ∷ replicate 28 0))

abbrev memory : List ℕ
memory = replicate 304 0xAA

-- the base page at 0002H, then the image's bytes at 30H to 3FH; what is behind them stays
abbrev filled : List ℕ
filled =
    replicate 32 0xAA ++ (0xFF ∷ 0 ∷ 0 ∷ 0x02 ∷ 0 ∷ 1 ∷ 0xFF ∷ 0 ∷ 0 ∷ 0x02 ∷ 0 ∷ 0 ∷ replicate 36 0) ++ replicate 16 0x11 ++ replicate 208 0xAA

-- ---- what is read
-- why the file can't be read, and its image
unfoldable pub reading : List ℕ → ℕ → Refusal × List ℕ
unfolding low_from any_from every_from fold part put all number joined lawful bytes start slot_start record_start group_of place_of inside places strip name_at same good_name block_in count_of of_file of_group slot_at find_slot record_slot counted present record_at random set_to with_random first_met read_block read_tests read_bytes entry_end larger size_of is_open outcome unless random_tests read_done read_random_act size_act size_tests shown measured first_from read_why image kind_stored words_at fields laid_out is_drive decoded
reading map rc = (read_why (decoded drive) (volume map rc) (fcb name), image (decoded drive) (volume map rc) (fcb name))

-- all records behind record 0: one, two, none
images : (reading one 2 ≡ (None, replicate 64 0x11 ++ replicate 64 0x22))
    × (((reading one 3).1 ≡ replicate 64 0x11 ++ replicate 64 0x22 ++ replicate 128 0x33) × ((reading one 1).1 ≡ []))
unfolding reading
images = (refl, (refl, refl))

-- of nine records the last has no block; record 0 is not there
reasons : ((reading one 9).0 ≡ Absent) × ((reading one 0).0 ≡ Absent)
unfolding reading
reasons = (refl, refl)

-- 17 records over blocks 1, none and 1: record 0 and the last one, record 16, are there, and records 8 to 15 are not
gap : (reading (1 ∷ 0 ∷ 1 ∷ replicate 13 0) 17).0 ≡ Absent
unfolding reading
gap = refl

-- ---- what a load leaves
unfoldable pub loading : List ℕ → ℕ → List ℕ → List ℕ → Started
unfolding low_from any_from every_from fold part put all bytes_of number joined lawful bytes start slot_start record_start group_of place_of inside places strip name_at same good_name block_in count_of of_file of_group slot_at find_slot record_slot counted present record_at random set_to with_random first_met read_block read_tests read_bytes entry_end larger size_of is_open outcome unless random_tests read_done read_random_act size_act size_tests covers overlap lies_in any_of all_of most_of rules.apart rules.lawful taken free_in run room has_room grant_at grant_of padded within_rules spans_at used_in table_of span_laid spans_laid table_laid header.groups header.type_at header.good_group header.place_of header.page_place header.good_header header.image_start followed grants shown measured first_from read_why image region_of shown_of last_of field_of field base_page page_start group_laid laid with_page loaded placed load load_bytes kind_stored words_at fields laid_out is_drive decoded load_answered load_at_seam
loading d rc f t = load_at_seam d (volume one rc) f t memory

-- the paragraph of the base page stands in the high 16 bits
done : loading drive 2 (fcb name) (table 0x10) ≡ started 0x20000 granted filled
unfolding loading
done = refl

-- refused with that number, and all bytes as they were
abbrev Refuses : ℕ → List ℕ → ℕ → List ℕ → List ℕ → Type 0
Refuses n d rc f t = loading d rc f t ≡ started n t memory

-- a closed drive; a control block of 35 bytes; another name: these come before 65 of a table of 65 bytes
before_65 : Refuses 32 (replicate 64 0) 2 (fcb name) (take 65 (table 0x10))
    × (Refuses 34 drive 2 (take 35 (fcb name)) (take 65 (table 0x10)) × Refuses 3 drive 2 (fcb (replicate 11 65)) (take 65 (table 0x10)))
unfolding loading
before_65 = (refl, (refl, refl))

-- mended one by one: a table of 65 bytes; no image; a piece that is a paragraph too short
from_65 : Refuses 65 drive 1 (fcb name) (take 65 (table 0x0F)) × (Refuses 61 drive 1 (fcb name) (table 0x0F) × Refuses 62 drive 2 (fcb name) (table 0x0F))
unfolding loading
from_65 = (refl, (refl, refl))
