-- Request (i) evaluated: what calls answer on eight-inch disks, and which bytes of an image they leave alone. What must be seen was
-- worked out by hand from the request.
use mathlib.Core.Path.{◌≡◌, refl, sym, ap, ◌∙◌}
use mathlib.Core.Bool.{Bool, true, false, true≢false}
use mathlib.Core.List.{List, [], ◌∷◌, ◌++◌, map}
use Prim.Native.Nat.{ℕ, ◌-◌, ◌*◌, ◌<◌}
use native.Mathlib.Omega.{arith}
use lib.ListN.{replicate}
use Rattle.lists.specs.Bounded.{low_from, count_from, every}
use Rattle.lists.specs.Bytes.{part}
use Rattle.lists.proofs.BoolLaws.{and_parts}
use Rattle.lists.proofs.BoundedLaws.{every_true, count_ext}
use Rattle.disk_geometry.specs.declared.Geometry.{Geometry}
use Rattle.disk_geometry.specs.EightInch.{sector_at, image_start}
use Rattle.disk_geometry.specs.Geometry.{eight_inch, geometry_of, with_placing, floppy, lawful, bytes, inside, start, slot_start}
use Rattle.disk_volume.specs.Entry.{is_empty}
use Rattle.disk_volume.specs.Directory.{slot_at}
use Rattle.disk_held.specs.Held.{is_free, none_held, free_count}
use Rattle.disk_rules.specs.GoodSlot.{named_below, good_slot, lowest_bad}
use Rattle.disk_rules.specs.Named.{named, held_of}
use Rattle.disk_rules.proofs.NamedLaws.{named_at, holds_held}
use Rattle.call_typing.specs.Typing.{typeable_byte, blank_before, typeable}
use Rattle.call_fcb.specs.Fcb.{made}
use Rattle.call_answers.specs.Refusal.{first_met}
use Rattle.call_answers.specs.declared.Answer.TheVariants.{Done, Ready}
use Rattle.call_answers.specs.Answer.{number_of, value_of}
use Rattle.call_make.specs.Make.{make_tests, fresh_entry}
use Rattle.call_served.specs.Asked.{Asked, asked}
use Rattle.call_served.specs.Calls.{call_of}
use Rattle.filecalls.specs.declared.Drive.{Drive}
use Rattle.filecalls.specs.State.{closed, logged_in}
use Rattle.filecalls.specs.Outcome.{Outcome, left}
use Rattle.filecalls.specs.LogIn.{log_in_tests, log_in}
use Rattle.filecalls.specs.Open.{open_tests, open_act, close_tests, close_act, size_tests, size_act}
use Rattle.filecalls.specs.Search.{first_tests, search_first_act, next_tests, search_next_act}
use Rattle.filecalls.specs.Names.{make_ladder, make_act, rename_ladder, rename_act, attributes_ladder, attributes_act}
use Rattle.filecalls.specs.Read.{read_sequential_act}
use Rattle.filecalls.specs.Small.{protect_tests, protect_act, user_tests, user_act, set_random_tests, set_random_act}
use Rattle.several.specs.Several.{several_tests, several}
use Rattle.bdos.specs.Step.{does, step}
use Rattle.unskewed.specs.Unskewed.{straightened}
use Rattle.demands.specs.AtSeam.{logs_in}
use Rattle.demands.proofs.WrongWaysFail.{computes, entry_of, bytes_of, fcb_of}

-- what has to compute where a call is evaluated
unfoldable evaluates : Unit {0}
unfolding computes sector_at image_start typeable typeable_byte blank_before made make_tests fresh_entry open_tests open_act close_tests close_act size_tests size_act first_tests search_first_act next_tests search_next_act make_ladder make_act rename_ladder rename_act attributes_ladder attributes_act read_sequential_act protect_tests protect_act user_tests user_act set_random_tests set_random_act several_tests several
evaluates = tt

-- ---- "33 for another length, at its old place"
-- the number and the value of a log-in
abbrev logged : Geometry → List ℕ → List ℕ
logged g v = let a = (step g logs_in closed v).answer in number_of a ∷ value_of a ∷ []

-- no bytes, the straight volume's length, a byte less than an image and a byte more
other-lengths
    : map (logged floppy) ([] ∷ replicate 248832 0xE5 ∷ replicate 256255 0xE5 ∷ replicate 256257 0xE5 ∷ [])
    ≡ (33 ∷ 0 ∷ []) ∷ (33 ∷ 0 ∷ []) ∷ (33 ∷ 0 ∷ []) ∷ (33 ∷ 0 ∷ []) ∷ []
unfolding evaluates
other-lengths = refl

-- 32 comes before it, for other numbers and for a third placing
after_32
    : map (λ g. logged g []) (with_placing (geometry_of 1024 40 1) eight_inch ∷ with_placing (geometry_of 1024 243 2) 2 ∷ floppy ∷ [])
    ≡ (32 ∷ 0 ∷ []) ∷ (32 ∷ 0 ∷ []) ∷ (33 ∷ 0 ∷ []) ∷ []
unfolding evaluates
after_32 = refl

-- 36 comes behind it: in zeros every slot is bad
before_36 : map (logged floppy) (replicate 248832 0 ∷ replicate 256256 0 ∷ []) ≡ (33 ∷ 0 ∷ []) ∷ (36 ∷ 0 ∷ []) ∷ []
unfolding evaluates
before_36 = refl

-- an empty disk's drive; a control block too short, and one for drive 2
abbrev ready : Drive
ready = logged_in floppy none_held

abbrev too_short : List ℕ
too_short = replicate 35 2

abbrev drive_two : List ℕ
drive_two = replicate 36 2

number : Drive → List ℕ → List ℕ → ℕ → ℕ
number d v fcb n = number_of (step floppy (asked n 0 fcb []) d v).answer

-- every call that is lent a volume; without one, 28 and 32 are done, and 36 looks at its control block
calls-33
    : map (number ready [] too_short) (15 ∷ 16 ∷ 17 ∷ 18 ∷ 19 ∷ 20 ∷ 21 ∷ 22 ∷ 23 ∷ 30 ∷ 33 ∷ 34 ∷ 35 ∷ 40 ∷ 220 ∷ 221 ∷ 28 ∷ 32 ∷ 36 ∷ [])
    ≡ replicate 16 33 ++ (0 ∷ 0 ∷ 34 ∷ [])
unfolding evaluates number
calls-33 = refl

-- a closed drive is 32 before it; 34 and 42 come behind it
calls-around-33
    : number closed [] too_short 15 ∷ number ready [] drive_two 15 ∷ number ready (replicate 256256 0xE5) too_short 15 ∷ number ready (replicate 256256 0xE5) drive_two 15 ∷ []
    ≡ 32 ∷ 33 ∷ 34 ∷ 42 ∷ []
unfolding evaluates number
calls-around-33 = refl

-- ---- an image, and the unskewed volume of the same records
-- n sectors of bytes x, and the directory record that has an entry in its place k and is empty else
abbrev sectors : ℕ → ℕ → List ℕ
sectors n x = replicate (n * 128) x

abbrev holding : ℕ → List ℕ → List ℕ
holding k e = replicate (k * 32) 0xE5 ++ (e ++ replicate ((3 - k) * 32) 0xE5)

-- the last track: the last six logical records, of bytes 2, lie in sectors 18, 24, 4, 10, 16 and 22
last_track : List ℕ
last_track =
    sectors 3 0xE5 ++ (sectors 1 2 ++ (sectors 5 0xE5 ++ (sectors 1 2 ++ (sectors 5 0xE5 ++ (sectors 1 2 ++ (sectors 1 0xE5
    ++ (sectors 1 2 ++ (sectors 3 0xE5 ++ (sectors 1 2 ++ (sectors 1 0xE5 ++ (sectors 1 2 ++ sectors 2 0xE5)))))))))))

-- A has record 0 in block 2, and its entry in slot 14; B has no record, and its entry in slot 53. Logical records 0 and 13 lie in sectors
-- 1 and 2 of track 2, 3 and 16 in 19 and 20, 26 in sector 1 of track 3; the reserved tracks have bytes 1
image : List ℕ → List ℕ → List ℕ
image r0 r26 =
    sectors 52 1
    ++ (r0 ++ (holding 1 (entry_of 66 0 0) ++ (sectors 16 0xE5 ++ (holding 2 (entry_of 65 1 2) ++ (sectors 1 7 ++ (sectors 6 0xE5 ++ (r26 ++ (sectors 1897 0xE5 ++ last_track))))))))

volume : List ℕ → List ℕ → List ℕ
volume r0 r26 =
    r0 ++ (sectors 2 0xE5 ++ (holding 2 (entry_of 65 1 2) ++ (sectors 9 0xE5 ++ (holding 1 (entry_of 66 0 0) ++ (sectors 2 0xE5 ++ (sectors 1 7 ++ (sectors 9 0xE5 ++ (r26 ++ sectors 1917 0xE5))))))))

-- C is not there
image_before : List ℕ
unfolding image last_track
image_before = image (sectors 1 0xE5) (sectors 1 0xE5)

volume_before : List ℕ
unfolding volume
volume_before = volume (sectors 1 0xE5) (sectors 1 0xE5)

-- C is made in slot 0
image_made : List ℕ
unfolding image last_track
image_made = image (holding 0 (entry_of 67 0 0)) (sectors 1 0xE5)

volume_made : List ℕ
unfolding volume
volume_made = volume (holding 0 (entry_of 67 0 0)) (sectors 1 0xE5)

-- its record 2 lies in block 3: logical record 26
image_written : List ℕ
unfolding image last_track
image_written = image (holding 0 (entry_of 67 3 3)) (bytes_of 9)

volume_written_lem : List ℕ
unfolding volume
volume_written_lem = volume (holding 0 (entry_of 67 3 3)) (bytes_of 9)

-- ---- "Every call answers on such an image as on the unskewed volume. The reserved tracks and the last six logical records never change"
-- a drive of which the lowest blocks are held that this byte has a bit for
abbrev drive_of : Geometry → ℕ → Drive
drive_of g held = logged_in g (held ∷ replicate 63 0)

-- answer 0, and what is left beside it
abbrev leaves : Drive → List ℕ → List ℕ → List ℕ → Outcome
leaves d v fcb b = left (record { answer = Done 0; drive = d }) v fcb b

-- block 2 is held
on_floppy_lem : Drive
on_floppy_lem = drive_of floppy 4

on_straight : Drive
on_straight = drive_of (straightened floppy) 4

makes : Asked
makes = asked 22 0 (fcb_of 67 0) []

writes : Asked
writes = asked 34 0 (fcb_of 67 2) (bytes_of 9)

-- sector 1 of track 2 has the new entry, and all else stays
make_on_image : step floppy makes on_floppy_lem image_before ≡ leaves on_floppy_lem image_made (fcb_of 67 0) []
unfolding evaluates image_before image_made on_floppy_lem makes
make_on_image = refl

make_on_volume : step (straightened floppy) makes on_straight volume_before ≡ leaves on_straight volume_made (fcb_of 67 0) []
unfolding evaluates volume_before volume_made on_straight makes
make_on_volume = refl

-- that sector and sector 1 of track 3 change, and all else stays; block 3 is held, and the control block has the count and the map of
-- the entry, cr 2, and r0 2 as before
fcb_written : List ℕ
fcb_written = entry_of 67 3 3 ++ (2 ∷ 2 ∷ 0 ∷ 0 ∷ [])

write_on_image : step floppy writes on_floppy_lem image_made ≡ leaves (drive_of floppy 12) image_written fcb_written (bytes_of 9)
unfolding evaluates image_made image_written on_floppy_lem writes fcb_written
write_on_image = refl

write_on_volume : step (straightened floppy) writes on_straight volume_made ≡ leaves (drive_of (straightened floppy) 12) volume_written_lem fcb_written (bytes_of 9)
unfolding evaluates volume_made volume_written_lem on_straight writes fcb_written
write_on_volume = refl

-- ---- an empty disk: log-in "answers 0, the number of free blocks", 241 of 243. What of it would take long to compute, the blocks that
-- 64 slots name, follows from the slots' being empty
empty : List ℕ
empty = sectors 2002 0xE5

slots_empty : every 64 (λ j. is_empty (slot_at floppy empty j)) ≡ true
unfolding evaluates empty
slots_empty = refl

none_named : (b : ℕ) → named floppy empty b ≡ false
unfolding named
none_named b = go (named floppy empty b) refl
  where
    go : (t : Bool) → named floppy empty b ≡ t → t ≡ false
    go false e = refl
    go true e =
        let a = named_at floppy empty 64 b (and_parts (inside floppy b) (named_below floppy empty 64 b) e).1 in
        absurd (true≢false (sym (every_true (λ j. is_empty (slot_at floppy empty j)) 0 64 slots_empty a.slot (omega arith) (omega (arith, a.below))) ∙ a.used))

all_free : (b : ℕ) → b < 4096 → is_free (held_of floppy empty) b ≡ true
all_free b h = rw (holds_held floppy empty b h, none_named b)

each_counts : count_from (λ b. true) 2 241 ≡ 241
unfolding count_from
each_counts = refl

free_241 : free_count (held_of floppy empty) 2 243 ≡ 241
unfolding free_count
free_241 = count_ext (is_free (held_of floppy empty)) (λ b. true) 2 241 (λ m low high. all_free m (omega arith)) ∙ each_counts

accepted : (step floppy logs_in closed empty).answer ≡ Ready (free_count (held_of floppy empty) 2 243)
unfolding step does call_of log_in log_in_tests first_met lawful bytes lowest_bad good_slot low_from slot_at slot_start start image_start sector_at part empty
accepted = refl

empty_logs_in : (step floppy logs_in closed empty).answer ≡ Ready 241
empty_logs_in = accepted ∙ ap Ready free_241
