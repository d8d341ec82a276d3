-- Replacements evaluated on a volume with B 1,024, T 4, D 1: one file of five records, its contents and two chapters of two readings
-- each. The siglum "AB" stands in both chapters; the control block's bytes behind its name are all 255, r bytes among them.
use Prim.{Unit, tt}
use mathlib.Core.Path.{◌≡◌, refl}
use mathlib.Core.List.{List, [], ◌∷◌, ◌++◌}
use Prim.Native.Nat.{ℕ}
use lib.ListN.{replicate}
use Rattle.lists.specs.Bounded.{low_from, any_from, every_from, count_from, fold}
use Rattle.lists.specs.Bytes.{part, put, all}
use Rattle.disk_geometry.specs.declared.Geometry.{Geometry}
use Rattle.disk_geometry.specs.Geometry.{lawful, bytes, start, slot_start, record_start, group_of, place_of, inside, places, slots, geometry_of}
use Rattle.disk_volume.specs.Name.{strip, name_at, same, good_name}
use Rattle.disk_volume.specs.Entry.{block_in, with_block, count_of, of_file, of_group}
use Rattle.disk_volume.specs.Directory.{slot_at, find_slot}
use Rattle.disk_volume.specs.Record.{record_slot, counted, present, record_at}
use Rattle.disk_rules.specs.GoodSlot.{good_fields, good_top_bits, in_places, names_block, named_below, good_place, seen_below, good_slot, lowest_bad}
use Rattle.disk_stores.specs.Stores.{laid, record_stores, entry_stores}
use Rattle.call_fcb.specs.Fcb.{random, set_to, with_random}
use Rattle.call_answers.specs.Refusal.{first_met}
use Rattle.call_read.specs.Read.{read_block, read_tests, read_bytes}
use Rattle.call_entry.specs.Grown.{grown, written_entry}
use Rattle.call_decide.specs.Write.{write_slot, base_entry, needs_block, write_block, write_tests}
use Rattle.filecalls.specs.declared.Drive.{Drive}
use Rattle.filecalls.specs.State.{is_open, logged_in, closed}
use Rattle.filecalls.specs.Outcome.{outcome, unless, changed_state, with_protection}
use Rattle.filecalls.specs.Read.{random_tests, read_done, read_random_act}
use Rattle.filecalls.specs.Write.{write_entry, write_done, write_random_act}
use Rattle.filecalls.specs.Change.{change_tests}
use Rattle.desk_contents.specs.Contents.{total, others, used_place, place_fits, good_contents, chapter_place}
use Rattle.filecalls.specs.Rewrite.{rewritten_bytes}
use Rattle.desk.specs.Answer.{number_of, value_of}
use Rattle.desk.specs.Records.{shown, written, rewritten}
use Rattle.desk.specs.Replace.{allowed, plan_in, plan, rewrite_if, carried_out, replacement}
use Rattle.desk.specs.Stores.{written_stores, rewritten_stores, all_stores, plan_stores, replacement_stores, cut_replacement}

-- what has to compute where a replacement is evaluated
unfoldable pub computes : Unit {0}
unfolding low_from any_from every_from count_from fold part put all lawful bytes start slot_start record_start group_of place_of inside places strip name_at same good_name block_in with_block count_of of_file of_group slot_at find_slot record_slot counted present record_at laid record_stores entry_stores random set_to with_random first_met read_block read_tests read_bytes grown written_entry write_slot base_entry needs_block write_block write_tests is_open outcome unless changed_state random_tests read_done read_random_act write_entry write_done write_random_act change_tests total others used_place place_fits good_contents chapter_place shown written rewritten allowed plan_in plan rewrite_if carried_out replacement written_stores rewritten_stores all_stores plan_stores replacement_stores cut_replacement good_fields good_top_bits in_places names_block named_below good_place seen_below good_slot lowest_bad
computes = tt

-- ---- the volume
-- "SIGLA   TXT", with another byte 9
abbrev name : ℕ → List ℕ
name t = 83 ∷ 73 ∷ 71 ∷ 76 ∷ 65 ∷ 32 ∷ 32 ∷ 32 ∷ t ∷ 88 ∷ 84 ∷ []

-- its entry: byte 9, extent, rc, and the first two places of the map
abbrev entry_of : ℕ → ℕ → ℕ → ℕ → ℕ → List ℕ
entry_of t ex rc a b = (0 ∷ name t) ++ (ex ∷ 0 ∷ 0 ∷ rc ∷ a ∷ b ∷ replicate 14 0)

-- chapter 3 is records 1 and 2, chapter 7 as many records from 3 on as this number says
abbrev contents_of : ℕ → ℕ → List ℕ
contents_of low high = 3 ∷ 0 ∷ 1 ∷ 0 ∷ 2 ∷ 0 ∷ 0 ∷ 0 ∷ 7 ∷ 0 ∷ 3 ∷ 0 ∷ low ∷ high ∷ 0 ∷ 0 ∷ replicate 112 0

-- chapter 3 alone, as many records from the first on
abbrev one_chapter : ℕ → ℕ → List ℕ
one_chapter first count = 3 ∷ 0 ∷ first ∷ 0 ∷ count ∷ replicate 123 0

-- siglum, lemma number, commentary
abbrev pub reading : ℕ → ℕ → ℕ → List ℕ
reading a b lemma = a ∷ b ∷ lemma ∷ 0 ∷ replicate 124 46

-- "AC" and "FG" are the sigla of readings 2 and 4
abbrev readings : List ℕ → List ℕ → List ℕ
readings first third = first ++ reading 65 67 2 ++ third ++ reading 70 71 4

abbrev pub volume_of : List ℕ → List ℕ → List ℕ → List ℕ
volume_of entry first rest = entry ++ replicate 992 229 ++ first ++ rest ++ replicate 2432 0

-- "AB" in readings 1 and 3; "PQ" in the first of them; in both
abbrev pub before : List ℕ
before = readings (reading 65 66 1) (reading 65 66 3)

abbrev pub first_done : List ℕ
first_done = readings (reading 80 81 1) (reading 65 66 3)

abbrev pub both_done : List ℕ
both_done = readings (reading 80 81 1) (reading 80 81 3)

abbrev pub entry : List ℕ
entry = entry_of 84 0 5 1 0

abbrev pub contents : List ℕ
contents = contents_of 2 0

abbrev pub volume : List ℕ
volume = volume_of entry contents before

-- with contents against the rules: chapter 3 begins with record 2
abbrev broken : List ℕ → List ℕ
broken e = volume_of e (one_chapter 2 2) before

-- record 4 is listed and not there
abbrev pub unreadable : List ℕ
unreadable = volume_of (entry_of 84 0 4 1 0) contents before

-- a file of one chapter
abbrev pub joint : List ℕ → List ℕ
joint rest = volume_of entry (one_chapter 1 4) rest

-- one in which record 9 stands where record 1 stands, because block 1 is in two places of the map
abbrev pub doubled : List ℕ → List ℕ
doubled rest = volume_of (entry_of 84 0 10 1 1) (one_chapter 1 9) rest

abbrev pub geometry : Geometry
geometry = geometry_of 1024 4 1

abbrev pub drive : Drive
drive = logged_in geometry (2 ∷ 0 ∷ 0 ∷ 0 ∷ [])

-- dr, byte 9, and how many bytes stand behind the name
abbrev fcb_of : ℕ → ℕ → ℕ → List ℕ
fcb_of dr t n = (dr ∷ name t) ++ replicate n 255

abbrev pub fcb : List ℕ
fcb = fcb_of 0 84 24

-- "AB" and "PQ", as numbers of 16 bits
abbrev pub AB : ℕ
AB = 16961

abbrev pub PQ : ℕ
PQ = 20816

-- ---- what is seen of a call: number and value, and then every byte of the volume
abbrev seen : Drive → List ℕ → List ℕ → ℕ → ℕ → ℕ → List ℕ
seen d v f chapter old new =
    let r = replacement d v f chapter old new in
    number_of r.answer ∷ value_of r.answer ∷ r.volume

-- "AB" by "PQ" is refused, and nothing is changed
abbrev Refuses : ℕ → Drive → List ℕ → List ℕ → ℕ → Type 0
Refuses number d v f chapter = seen d v f chapter AB PQ ≡ number ∷ 0 ∷ v

-- "AB" by "PQ" in chapter 3 is cut: the stores that are left, and every byte
abbrev cut_after : ℕ → List ℕ → List ℕ
cut_after most v =
    let r = cut_replacement most drive v fcb 3 AB PQ in
    r.left ∷ r.volume

-- ---- what they show
-- the volume passes inspection
pub passes : lowest_bad geometry volume ≡ slots geometry
unfolding computes
passes = refl

-- a record read and written again: its own bytes but for the first two; zeros but for these where it is not present, or what is lent is refused
pub rewritten_bytes_lem : (rewritten_bytes drive volume (with_random fcb 2) 80 81 ≡ reading 80 81 2)
    × ((rewritten_bytes drive volume (with_random fcb 5) 80 81 ≡ 80 ∷ 81 ∷ replicate 126 0)
    × (rewritten_bytes closed volume (with_random fcb 2) 80 81 ≡ 80 ∷ 81 ∷ replicate 126 0))
unfolding computes rewritten_bytes
rewritten_bytes_lem = (refl, (refl, refl))

-- one record of chapter 7 matches and has the new siglum; its lemma number stays, and so does the same siglum in chapter 3
pub one_chapter_lem : seen drive volume fcb 7 AB PQ ≡ 0 ∷ 1 ∷ volume_of entry contents (readings (reading 65 66 1) (reading 80 81 3))
unfolding computes
one_chapter_lem = refl

-- "the answer counts the matching records", not those listed: one of two, two of four; none matches; a siglum replaced by itself
pub counted_ones : (seen drive volume fcb 3 AB PQ ≡ 0 ∷ 1 ∷ volume_of entry contents first_done)
    × ((seen drive (joint before) fcb 3 AB PQ ≡ 0 ∷ 2 ∷ joint both_done)
    × ((seen drive volume fcb 7 PQ AB ≡ 0 ∷ 0 ∷ volume) × (seen drive volume fcb 3 AB AB ≡ 0 ∷ 1 ∷ volume)))
unfolding computes
counted_ones = (refl, (refl, (refl, refl)))

-- matches are fixed before any change: records 1 and 9 in one place are both counted, beside record 3
pub fixed_before : seen drive (doubled before) fcb 3 AB PQ ≡ 0 ∷ 3 ∷ doubled both_done
unfolding computes
fixed_before = refl

-- "PQ" by "AB" afterwards: the old bytes
pub back_again : (replacement drive (replacement drive volume fcb 7 AB PQ).volume fcb 7 PQ AB).volume ≡ volume
unfolding computes
back_again = refl

-- the file's own refusals, each before those that stand after it: 32, 33, 34, 42, 39, 37, 3
pub refused_lent : Refuses 32 closed (volume ++ 0 ∷ []) (fcb_of 2 63 23) 7 × (Refuses 33 (with_protection drive) (volume ++ 0 ∷ []) (fcb_of 2 63 23) 7
    × (Refuses 34 (with_protection drive) volume (fcb_of 2 63 23) 7 × (Refuses 42 (with_protection drive) volume (fcb_of 2 63 24) 7
    × (Refuses 39 (with_protection drive) volume (fcb_of 0 63 24) 7 × (Refuses 37 (with_protection drive) volume (fcb_of 0 88 24) 7
    × Refuses 3 drive volume (fcb_of 0 88 24) 7)))))
unfolding computes
refused_lent = (refl, (refl, (refl, (refl, (refl, (refl, refl))))))

-- and of a file that is there: 37, 38, 4, 1, 41
pub refused_file : Refuses 37 (with_protection drive) (broken (entry_of 212 1 0 4 0)) fcb 3 × (Refuses 38 drive (broken (entry_of 212 1 0 4 0)) fcb 3
    × (Refuses 4 drive (broken (entry_of 84 1 0 4 0)) fcb 3 × (Refuses 1 drive (broken (entry_of 84 0 0 4 0)) fcb 3
    × Refuses 41 drive (broken (entry_of 84 0 5 4 0)) fcb 3)))
unfolding computes
refused_file = (refl, (refl, (refl, (refl, refl))))

-- 50: chapter not there; chapter 0; contents against the rules; a listed record of another chapter that cannot be read; records from
-- 65,536 on. "Everything is tested before anything is changed."
pub refused_50 : Refuses 50 drive volume fcb 9 × (Refuses 50 drive volume fcb 0 × (Refuses 50 drive (broken entry) fcb 3
    × (Refuses 50 drive unreadable fcb 3 × Refuses 50 drive (volume_of entry (contents_of 255 255) before) fcb 3)))
unfolding computes
refused_50 = (refl, (refl, (refl, (refl, refl))))

-- (xii): of two matching records, each with two stores, a cut leaves none, the first, or both done; in a chapter with one match
-- two stores are enough
pub cut_ones : (cut_after 0 (joint before) ≡ 0 ∷ joint before) × ((cut_after 1 (joint before) ≡ 0 ∷ joint first_done)
    × ((cut_after 2 (joint before) ≡ 0 ∷ joint first_done) × ((cut_after 3 (joint before) ≡ 0 ∷ joint both_done)
    × ((cut_after 9 (joint before) ≡ 5 ∷ joint both_done) × (cut_after 2 volume ≡ 0 ∷ volume_of entry contents first_done)))))
unfolding computes
cut_ones = (refl, (refl, (refl, (refl, (refl, refl)))))
