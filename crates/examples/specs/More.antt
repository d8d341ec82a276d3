-- More scripts, for what the table doesn't touch: readings of the paper, each quoted above its calls, on small volumes.
use Rattle.std.specs.Prelude.{◌≡◌, refl, Bool, true, false, ◌||◌, List, [], ◌∷◌, ◌++◌, ℕ, ◌+◌, ◌^◌, ltb, eqb, replicate, set}
use Rattle.disk_geometry.specs.declared.Geometry.{Geometry}
use Rattle.disk_geometry.specs.Geometry.{geometry_of, lawful}
use Rattle.disk_volume.specs.Name.{strip, name_at, good_name}
use Rattle.lists.specs.Bytes.{part, all}
use Rattle.disk_held.specs.Held.{held_words, hold, release, words_of, none_held, lowest_free, free_count}
use Rattle.call_delete.specs.Delete.{free_matches}
use Rattle.call_search.specs.declared.SearchKind.{SearchKind}
use Rattle.call_search.specs.declared.SearchKind.TheVariants.{Nothing, Pattern, Everything}
use Rattle.filecalls.specs.declared.Drive.{Drive}
use Rattle.filecalls.specs.State.{is_open}
use Rattle.examples.specs.Script.{log_in, open_file, close_file, search_first, search_next, delete, read_next, write_next, make, rename, protect, attributes, user, read, write, size, set_random, write_zero_fill, done, free, refused, bad_slot, Line, call, altered, slots_are, held_are, volume_at, fcb_at, fcb_is, buffer_is, Script, script, lent_fcb, lent_buffer, words, seen, told}
use Rattle.examples.specs.Samples.{sigla, lemmata, from, system_from, lemmata_read_only, topped, any_name, small, disk, entry, empty, control, fresh, record_of, extent_of, renaming, filled, old}
use Rattle.examples.specs.Table.{block4in15, block1in12, volume_full, geometry_full, extents_from}

-- Names and patterns
abbrev pub on_names : List Line
on_names =
    call (log_in small) (free 3)
    ∷ call (make (fresh sigla)) (done 0)
    ∷ call (make (fresh lemmata)) (done 1)
    -- "BFH in an open, search or delete pattern is the wildcard 3FH."
    ∷ call (open_file (fresh (from 0xBF))) (done 0)
    ∷ fcb_is (fresh sigla)
    ∷ call (search_first (fresh (from 0xBF)) (filled 0)) (done 0)
    -- "In every other call BFH is 39."
    ∷ call (make (fresh (from 0xBF))) (refused 39)
    ∷ call (close_file (fresh (from 0xBF))) (refused 39)
    ∷ call (rename (renaming (from 0xBF) sigla)) (refused 39)
    ∷ call (rename (renaming sigla (from 0xBF))) (refused 39)
    ∷ call (attributes (fresh (from 0xBF))) (refused 39)
    ∷ call (read_next (fresh (from 0xBF)) (filled 0)) (refused 39)
    ∷ call (write_next (fresh (from 0xBF)) (filled 0)) (refused 39)
    ∷ call (read (fresh (from 0xBF)) (filled 0)) (refused 39)
    ∷ call (write (fresh (from 0xBF)) (filled 0)) (refused 39)
    ∷ call (size (fresh (from 0xBF))) (refused 39)
    ∷ call (write_zero_fill (fresh (from 0xBF)) (filled 0)) (refused 39)
    -- "A0H first is 39 (it is 20H), FFH is 39 (it is 7FH). First not 20H holds for patterns too."
    ∷ call (open_file (fresh (from 0xA0))) (refused 39)
    ∷ call (search_first (fresh (from 0x20)) (filled 0)) (refused 39)
    ∷ call (delete (fresh (from 0xA0))) (refused 39)
    ∷ call (make (fresh (from 0xFF))) (refused 39)
    ∷ call (make (fresh (from 0x1F))) (refused 39)
    -- "dr not 0 or 1 (search: 63 also)"
    ∷ call (open_file (set (fresh any_name) 0 1)) (done 0)
    ∷ call (open_file (set (fresh any_name) 0 2)) (refused 42)
    ∷ call (open_file (set (fresh any_name) 0 63)) (refused 42)
    -- "Names compare without top bits."
    ∷ call (make (fresh (from 0xD3))) (refused 43)
    ∷ call (close_file (fresh (from 0xD3))) (done 0)
    -- "name without top bits, all else 0. Control block 1..11 likewise, 12..31 become 0."
    ∷ call (make (set (control (from 0xD4) 0 3 9 (5 ∷ 6 ∷ []) 77 197121) 13 8)) (done 2)
    ∷ volume_at 0 (entry 0 sigla 0 0 0 [] ++ entry 0 lemmata 0 0 0 [] ++ entry 0 (from 84) 0 0 0 [] ++ empty 29)
    ∷ fcb_is (control (from 84) 0 0 0 [] 77 197121)
    -- "Code is the slot modulo 4"
    ∷ call (make (fresh (from 86))) (done 3)
    ∷ call (make (fresh (from 87))) (done 0)
    ∷ call (make (fresh (from 88))) (done 1)
    ∷ call (open_file (fresh (from 88))) (done 1)
    ∷ call (close_file (fresh (from 88))) (done 1)
    -- "make: ex not 0"
    ∷ call (make (set (fresh (from 85)) 12 1)) (refused 40)
    -- "Byte 16 and bytes 28..31 are not examined."
    ∷ call (rename (set (set (renaming (from 84) (from 0xD5)) 16 255) 28 255)) (done 0)
    ∷ volume_at 64 (entry 0 (from 85) 0 0 0 [])
    ∷ fcb_is (set (set (renaming (from 84) (from 0xD5)) 16 255) 28 255)
    -- "byte 0 of all matching entries of the user (3FH allowed) becomes E5H"
    ∷ call (delete (fresh any_name)) (done 0)
    ∷ volume_at 0 (entry 0xE5 sigla 0 0 0 [] ++ entry 0xE5 lemmata 0 0 0 [] ++ entry 0xE5 (from 85) 0 0 0 [])
    ∷ volume_at 96 (entry 0xE5 (from 86) 0 0 0 [] ++ entry 0xE5 (from 87) 0 0 0 [] ++ entry 0xE5 (from 88) 0 0 0 [] ++ empty 26)
    ∷ call (delete (fresh any_name)) (refused 255)
    -- "Only the pattern's 3FH is a wildcard. A 3FH in a directory byte (altered volumes only) is an ordinary byte."
    ∷ altered (disk (entry 0 (from 0x3F) 0 0 0 [] ++ empty 31))
    ∷ call (size (fresh sigla)) (refused 255)
    ∷ call (open_file (fresh sigla)) (refused 255)
    ∷ call (open_file (fresh (from 0x3F))) (done 0)
    ∷ []

abbrev pub namings : List Script
namings = script (disk (empty 32)) on_names ∷ []

names_hold : seen namings ≡ told namings
unfolding seen told old
names_hold = refl

-- Searches: slots 0 and 2 are extents of one file, slot 1 is another file, slot 3 is empty, slot 4 is another user's,
-- slot 31 is extent 31 of the first file
abbrev pub record0 : List ℕ
record0 = entry 0 sigla 0 0 128 [] ++ entry 0 lemmata 0 0 0 [] ++ entry 0 sigla 1 0 0 [] ++ empty 1

abbrev pub record1 : List ℕ
record1 = entry 1 sigla 0 0 0 [] ++ empty 3

abbrev pub record7 : List ℕ
record7 = empty 3 ++ entry 0 sigla 31 0 0 []

-- a control block that asks for everything, with a name and an ex that no rule allows
abbrev pub everything : List ℕ
everything = set (extent_of (replicate 11 0) 255) 0 0x3F

abbrev pub on_searches : List Line
on_searches =
    call (log_in small) (free 3)
    -- "search (or none open)"
    ∷ call (search_next (filled 0)) (refused 255)
    ∷ buffer_is (filled 0)
    -- "First starts at slot 0 and keeps pattern and user; next .. goes on after the last hit"
    ∷ call (search_first (extent_of any_name 0) (filled 0)) (done 0)
    ∷ fcb_is (extent_of any_name 0)
    ∷ buffer_is record0
    ∷ call (search_next (filled 0)) (done 1)
    ∷ buffer_is record0
    -- "Next with no hit leaves the search open."
    ∷ call (search_next (filled 0)) (refused 255)
    ∷ buffer_is (filled 0)
    ∷ call (search_next (filled 0)) (refused 255)
    -- "ex 3FH matching any group"; "Next uses the user kept by first."
    ∷ call (search_first (set (extent_of (from 0x3F) 0x3F) 0 1) (filled 0)) (done 0)
    ∷ call (user 1) (done 0)
    ∷ call (search_next (filled 0)) (done 2)
    -- "First with no hit changes nothing: an older search stays open and next goes on with it."
    ∷ call (search_first (extent_of lemmata 0) (filled 0)) (refused 255)
    ∷ call (search_next (filled 0)) (done 3)
    ∷ buffer_is record7
    ∷ call (search_next (filled 0)) (refused 255)
    ∷ call (search_first (extent_of sigla 0x3F) (filled 0)) (done 0)
    ∷ buffer_is record1
    ∷ call (user 0) (done 0)
    -- "slots matched as in open": in the group of ex
    ∷ call (search_first (extent_of sigla 31) (filled 0)) (done 3)
    ∷ call (search_first (extent_of sigla 30) (filled 0)) (refused 255)
    -- "search: 63 allowed", and nothing else above 31
    ∷ call (search_first (extent_of sigla 32) (filled 0)) (refused 40)
    ∷ call (search_first (set (extent_of sigla 0) 0 2) (filled 0)) (refused 42)
    -- "With dr 3FH every slot matches, empty ones too, of any user, and name and ex are not examined."
    ∷ call (search_first everything (filled 0)) (done 0)
    ∷ buffer_is record0
    ∷ call (search_next (filled 0)) (done 1)
    ∷ call (search_next (filled 0)) (done 2)
    -- "whichever other calls came between"
    ∷ call (size (fresh sigla)) (done 0)
    ∷ fcb_at 33 (128 ∷ 15 ∷ 0 ∷ [])
    ∷ call (delete (fresh lemmata)) (done 0)
    ∷ call (search_next (filled 0)) (done 3)
    ∷ call (search_next (filled 0)) (done 0)
    ∷ buffer_is record1
    -- "Log-in ends a search"
    ∷ call (log_in small) (free 3)
    ∷ call (search_next (filled 0)) (refused 255)
    ∷ []

abbrev pub searches : List Script
searches = script (disk (record0 ++ record1 ++ empty 20 ++ record7)) on_searches ∷ []

searches_hold : seen searches ≡ told searches
unfolding seen told old
searches_hold = refl

-- Positions
abbrev pub block1in15 : List ℕ
block1in15 = replicate 15 0 ++ (1 ∷ [])

abbrev pub block3in15 : List ℕ
block3in15 = replicate 15 0 ++ (3 ∷ [])

-- a control block at a sequential position
abbrev pub position_of : ℕ → ℕ → ℕ → List ℕ
position_of ex s2 cr = control sigla ex s2 0 [] cr 0

abbrev pub on_positions : List Line
on_positions =
    call (log_in small) (free 3)
    ∷ call (make (fresh sigla)) (done 0)
    -- "Cr after a sequential call is (n mod 128) + 1, up to 128; ex and s2 are those of n's own extent."
    ∷ call (write_next (position_of 0 0 127) (filled 7)) (done 0)
    ∷ volume_at 0 (entry 0 sigla 0 0 128 block1in15 ++ empty 31 ++ old 1024 896 ++ filled 7 ++ old 2048 2048)
    ∷ fcb_is (control sigla 0 0 128 block1in15 128 0)
    -- "cr 128 is taken, 129 is 40." "A position with cr 128 lies in the next extent."
    ∷ call (read_next (position_of 0 0 127) (filled 0)) (done 0)
    ∷ fcb_is (control sigla 0 0 128 block1in15 128 0)
    ∷ call (read_next (position_of 0 0 128) (filled 0)) (refused 1)
    ∷ call (write_next (position_of 0 0 128) (filled 8)) (done 0)
    ∷ volume_at 0 (entry 0 sigla 0 0 128 block1in15 ++ entry 0 sigla 1 0 1 (2 ∷ []) ++ empty 30)
    ∷ volume_at 1920 (filled 7 ++ filled 8 ++ old 2176 1920)
    ∷ fcb_is (control sigla 1 0 1 (2 ∷ []) 1 0)
    ∷ call (read_next (position_of 0 0 128) (filled 0)) (done 0)
    ∷ fcb_is (control sigla 1 0 1 (2 ∷ []) 1 0)
    ∷ buffer_is (filled 8)
    ∷ call (set_random (position_of 0 0 128)) (done 0)
    ∷ fcb_is (control sigla 0 0 0 [] 128 128)
    ∷ call (read_next (position_of 0 0 129) (filled 0)) (refused 40)
    ∷ call (write_next (position_of 0 0 129) (filled 0)) (refused 40)
    ∷ call (set_random (position_of 0 0 129)) (refused 40)
    ∷ call (read_next (position_of 32 0 0) (filled 0)) (refused 40)
    ∷ call (read_next (position_of 0 16 0) (filled 0)) (refused 40)
    -- "reads: record not present (sequential: missing group too)"
    ∷ call (read_next (position_of 1 0 1) (filled 0)) (refused 1)
    ∷ call (read_next (position_of 2 0 0) (filled 0)) (refused 1)
    ∷ call (read (record_of sigla 256) (filled 0)) (refused 4)
    -- "random: r2 not 0; sequential reads and writes: position 65,536"
    ∷ call (read_next (position_of 31 15 128) (filled 0)) (refused 6)
    ∷ call (write_next (position_of 31 15 128) (filled 0)) (refused 6)
    ∷ call (read (record_of sigla 65536) (filled 0)) (refused 6)
    ∷ call (write (record_of sigla 65536) (filled 0)) (refused 6)
    ∷ call (write_zero_fill (record_of sigla 65536) (filled 0)) (refused 6)
    -- "36 examines no name"
    ∷ call (set_random (control (replicate 11 0) 31 15 0 [] 128 7)) (done 0)
    ∷ fcb_at 33 (0 ∷ 0 ∷ 1 ∷ [])
    ∷ call (set_random (position_of 31 15 127)) (done 0)
    ∷ fcb_at 33 (255 ∷ 255 ∷ 0 ∷ [])
    ∷ call (write_next (position_of 31 15 127) (filled 9)) (done 0)
    ∷ volume_at 64 (entry 0 sigla 31 15 128 block3in15 ++ empty 29)
    ∷ fcb_is (control sigla 31 15 128 block3in15 128 0)
    -- "the group of (s2, ex) has an entry. Changes nothing."
    ∷ call (close_file (control sigla 31 15 9 (5 ∷ []) 200 7)) (done 2)
    ∷ fcb_is (control sigla 31 15 9 (5 ∷ []) 200 7)
    ∷ call (close_file (position_of 30 15 0)) (refused 255)
    ∷ call (close_file (position_of 0 16 0)) (refused 40)
    ∷ call (close_file (position_of 32 0 0)) (refused 40)
    -- "in the group of ex, with s2 taken as 0"
    ∷ call (open_file (position_of 31 15 0)) (refused 255)
    ∷ call (open_file (set (control sigla 1 200 9 (5 ∷ []) 200 7) 13 6)) (done 1)
    ∷ fcb_is (control sigla 1 0 1 (2 ∷ []) 200 7)
    ∷ call (open_file (position_of 32 0 0)) (refused 40)
    -- random calls use none of ex, s2 and cr
    ∷ call (read (control sigla 255 255 9 (5 ∷ []) 255 128) (filled 0)) (done 0)
    ∷ fcb_is (control sigla 1 0 1 (2 ∷ []) 0 128)
    ∷ []

-- "T 2, D 1: the second block asked for: 2."
abbrev pub on_one_block : List Line
on_one_block =
    call (log_in (geometry_of 1024 2 1)) (free 1)
    ∷ call (make (fresh sigla)) (done 0)
    ∷ call (size (record_of sigla 9)) (done 0)
    ∷ fcb_is (record_of sigla 0)
    ∷ call (write (record_of sigla 0) (filled 7)) (done 0)
    ∷ held_are (2 ∷ 0 ∷ 0 ∷ 0 ∷ [])
    ∷ call (write (record_of sigla 8) (filled 8)) (refused 2)
    ∷ call (write_next (position_of 0 0 8) (filled 8)) (refused 2)
    ∷ call (write_zero_fill (record_of sigla 8) (filled 8)) (refused 2)
    -- "the random write, but a block given for the first time is first filled with zeros": this one was given before
    ∷ call (write_zero_fill (record_of sigla 3) (filled 5)) (done 0)
    ∷ volume_at 0 (entry 0 sigla 0 0 4 (1 ∷ []) ++ empty 31 ++ filled 7 ++ old 1152 256 ++ filled 5 ++ old 1536 512)
    ∷ fcb_is (control sigla 0 0 4 (1 ∷ []) 3 3)
    ∷ buffer_is (filled 5)
    ∷ call (read (record_of sigla 3) (filled 1)) (done 0)
    ∷ buffer_is (filled 5)
    -- "if equal, rc is the larger of both"
    ∷ call (write (record_of sigla 2) (filled 9)) (done 0)
    ∷ volume_at 0 (entry 0 sigla 0 0 4 (1 ∷ []) ++ empty 31 ++ filled 7 ++ old 1152 128 ++ filled 9 ++ filled 5 ++ old 1536 512)
    -- a new group, an empty slot, no free block
    ∷ call (write (record_of sigla 128) (filled 8)) (refused 2)
    -- "their blocks are free"; record 4,106 is in extent 32: ex 0, s2 1
    ∷ call (delete (fresh sigla)) (done 0)
    ∷ held_are (0 ∷ 0 ∷ 0 ∷ 0 ∷ [])
    ∷ call (make (fresh lemmata)) (done 0)
    ∷ call (write_zero_fill (record_of lemmata 4106) (filled 6)) (done 0)
    ∷ volume_at 0 (entry 0 lemmata 0 0 0 [] ++ entry 0 lemmata 0 1 11 (0 ∷ 1 ∷ []) ++ empty 30)
    ∷ volume_at 1024 (replicate 256 0 ++ filled 6 ++ replicate 640 0)
    ∷ fcb_is (control lemmata 0 1 11 (0 ∷ 1 ∷ []) 10 4106)
    ∷ call (read (record_of lemmata 4105) (filled 1)) (done 0)
    ∷ fcb_is (control lemmata 0 1 11 (0 ∷ 1 ∷ []) 9 4105)
    ∷ buffer_is (filled 0)
    ∷ []

-- B 2,048: an entry has two extents. One file has record 200 alone, the other a block in its second extent, which is
-- above its own E
abbrev pub block2in8 : List ℕ
block2in8 = replicate 8 0 ++ (2 ∷ [])

abbrev pub blocks3and1 : List ℕ
blocks3and1 = replicate 7 0 ++ (3 ∷ 0 ∷ 0 ∷ 0 ∷ 0 ∷ 1 ∷ [])

abbrev pub on_two_extents : List Line
on_two_extents =
    call (log_in (geometry_of 2048 4 1)) (free 1)
    ∷ held_are (6 ∷ 0 ∷ 0 ∷ 0 ∷ [])
    -- "An entry counts 128 records for each extent of its group below its own E, min(rc, 128) for E, 0 above."
    ∷ call (open_file (extent_of lemmata 0)) (done 0)
    ∷ fcb_is (control lemmata 0 0 128 block1in12 0 0)
    ∷ call (open_file (extent_of lemmata 1)) (done 0)
    ∷ fcb_is (control lemmata 1 0 73 block1in12 0 0)
    ∷ call (open_file (extent_of lemmata 2)) (refused 255)
    ∷ call (open_file (extent_of sigla 1)) (done 1)
    ∷ fcb_is (control sigla 1 0 0 block2in8 0 0)
    ∷ call (read (record_of sigla 128) (filled 0)) (refused 1)
    ∷ call (search_first (extent_of lemmata 1) (filled 0)) (done 0)
    -- "if below, it stays"
    ∷ call (write (record_of lemmata 127) (filled 8)) (done 0)
    ∷ volume_at 0 (entry 0 lemmata 1 0 73 blocks3and1)
    ∷ volume_at 8064 (filled 8)
    ∷ fcb_is (control lemmata 0 0 128 blocks3and1 127 127)
    -- "Testing rc without the map place: gaps read as records."
    ∷ call (read (record_of lemmata 100) (filled 0)) (refused 1)
    ∷ call (read (record_of lemmata 201) (filled 0)) (refused 1)
    ∷ call (read (record_of lemmata 256) (filled 0)) (refused 4)
    ∷ call (size (fresh lemmata)) (done 0)
    ∷ fcb_at 33 (201 ∷ 0 ∷ 0 ∷ [])
    ∷ []

abbrev pub directory_two_extents : List ℕ
directory_two_extents = entry 0 lemmata 1 0 73 block1in12 ++ entry 0 sigla 0 0 5 block2in8 ++ empty 62

abbrev pub positions : List Script
positions =
    script (disk (empty 32)) on_positions
    ∷ script (empty 32 ++ old 1024 1024) on_one_block
    ∷ script (directory_two_extents ++ old 2048 6144) on_two_extents
    ∷ []

positions_hold : seen positions ≡ told positions
unfolding seen told old
positions_hold = refl

-- Delete, rename, attributes, protection: names with top bits in the type
abbrev pub directory_changes : List ℕ
directory_changes = entry 0 sigla 0 0 1 (1 ∷ []) ++ entry 0 lemmata_read_only 0 0 0 [] ++ entry 0 sigla 1 0 1 (2 ∷ []) ++ empty 29

abbrev pub on_changes : List Line
on_changes =
    call (log_in small) (free 1)
    -- "Pattern delete with one read-only match: 38, nothing gone."
    ∷ call (delete (fresh any_name)) (refused 38)
    ∷ volume_at 0 (disk directory_changes)
    -- "writes, rename: any entry of the file is read-only"
    ∷ call (write (record_of lemmata 0) (filled 7)) (refused 38)
    ∷ call (write_next (record_of lemmata 0) (filled 7)) (refused 38)
    ∷ call (write_zero_fill (record_of lemmata 0) (filled 0)) (refused 38)
    ∷ call (rename (renaming lemmata (from 85))) (refused 38)
    -- "top bits of control block bytes 9 and 10 go to all entries of the file"
    ∷ call (attributes (fresh lemmata)) (done 0)
    ∷ call (attributes (fresh (system_from 0xD3))) (done 0)
    ∷ volume_at 0 (entry 0 (system_from 83) 0 0 1 (1 ∷ []) ++ entry 0 lemmata 0 0 0 [] ++ entry 0 (system_from 83) 1 0 1 (2 ∷ []) ++ empty 29)
    ∷ fcb_is (fresh (system_from 0xD3))
    ∷ call (attributes (fresh (from 85))) (refused 255)
    -- "the (new) name exists"; "no match"
    ∷ call (rename (renaming sigla lemmata)) (refused 43)
    ∷ call (rename (renaming (from 85) (from 86))) (refused 255)
    -- "all entries of the file take the new one without top bits and keep their attribute bits"
    ∷ call (rename (renaming sigla (topped 85))) (done 0)
    ∷ volume_at 0 (entry 0 (system_from 85) 0 0 1 (1 ∷ []) ++ entry 0 lemmata 0 0 0 [] ++ entry 0 (system_from 85) 1 0 1 (2 ∷ []) ++ empty 29)
    -- "A new group's entry copies bytes 0..11 of the file's lowest entry literally."
    ∷ call (write (record_of (from 85) 257) (filled 7)) (done 0)
    ∷ volume_at 96 (entry 0 (system_from 85) 2 0 2 (3 ∷ []) ++ empty 28)
    ∷ volume_at 3200 (filled 7)
    ∷ fcb_is (control (from 85) 2 0 2 (3 ∷ []) 1 257)
    ∷ call (write (record_of (from 85) 384) (filled 7)) (refused 2)
    ∷ call (delete (fresh (from 0xBF))) (done 0)
    ∷ volume_at 0 (entry 0xE5 (system_from 85) 0 0 1 (1 ∷ []) ++ entry 0 lemmata 0 0 0 [] ++ entry 0xE5 (system_from 85) 1 0 1 (2 ∷ []))
    ∷ volume_at 96 (entry 0xE5 (system_from 85) 2 0 2 (3 ∷ []) ++ empty 28)
    ∷ held_are (0 ∷ 0 ∷ 0 ∷ 0 ∷ [])
    ∷ call (write (record_of lemmata 0) (filled 8)) (done 0)
    ∷ volume_at 32 (entry 0 lemmata 0 0 1 (1 ∷ []))
    -- "user has no entry of that name"
    ∷ call (write (record_of sigla 0) (filled 8)) (refused 3)
    ∷ call (write_next (record_of sigla 0) (filled 8)) (refused 3)
    ∷ call (write_zero_fill (record_of sigla 0) (filled 0)) (refused 3)
    -- the blocks of other files stay held; an attribute that was set is there
    ∷ call (make (fresh sigla)) (done 0)
    ∷ call (write (record_of sigla 0) (filled 9)) (done 0)
    ∷ held_are (6 ∷ 0 ∷ 0 ∷ 0 ∷ [])
    ∷ call (delete (fresh sigla)) (done 0)
    ∷ held_are (2 ∷ 0 ∷ 0 ∷ 0 ∷ [])
    ∷ call (attributes (fresh lemmata_read_only)) (done 0)
    ∷ volume_at 32 (entry 0 lemmata_read_only 0 0 1 (1 ∷ []))
    ∷ call (delete (fresh lemmata)) (refused 38)
    -- "protected: delete, make, rename, attributes, writes", behind 39, 40 and 6 and before all that looks at the directory
    ∷ call protect (done 0)
    ∷ call (delete (fresh (from 85))) (refused 37)
    ∷ call (make (fresh lemmata)) (refused 37)
    ∷ call (make (fresh (from 0x3F))) (refused 39)
    ∷ call (rename (renaming sigla lemmata)) (refused 37)
    ∷ call (attributes (fresh sigla)) (refused 37)
    ∷ call (write (record_of sigla 0) (filled 8)) (refused 37)
    ∷ call (write (record_of sigla 65536) (filled 8)) (refused 6)
    ∷ call (write_next (record_of sigla 0) (filled 8)) (refused 37)
    ∷ call (write_zero_fill (record_of sigla 0) (filled 0)) (refused 37)
    ∷ call (read (record_of lemmata 0) (filled 0)) (done 0)
    ∷ buffer_is (filled 8)
    ∷ call (read (record_of sigla 0) (filled 0)) (refused 3)
    -- "protects until the next log-in"; the blocks of deleted entries are free
    ∷ call (log_in small) (free 2)
    ∷ call (make (fresh sigla)) (done 0)
    ∷ []

-- a full directory: "make answers 255 here", and a group that is there needs no slot
abbrev pub on_full_more : List Line
on_full_more =
    call (log_in geometry_full) (free 0)
    ∷ call (make (fresh lemmata)) (refused 255)
    ∷ call (make (fresh sigla)) (refused 43)
    ∷ call (write (record_of sigla 128) (filled 7)) (refused 2)
    ∷ call (write (record_of sigla 0) (filled 7)) (done 0)
    ∷ volume_at 1024 (filled 7 ++ old 1152 896)
    ∷ []

-- Users: "0..15 sets, answer 0; 255 answers the current code"; a file is of one user
abbrev pub on_users : List Line
on_users =
    call (log_in small) (free 3)
    ∷ call (user 255) (done 0)
    ∷ call (user 16) (refused 44)
    ∷ call (user 254) (refused 44)
    ∷ call (user 15) (done 0)
    ∷ call (user 255) (done 15)
    ∷ call (make (fresh sigla)) (done 0)
    ∷ volume_at 0 (entry 15 sigla 0 0 0 [] ++ empty 31)
    ∷ call (user 0) (done 0)
    ∷ call (close_file (fresh sigla)) (refused 255)
    ∷ call (size (fresh sigla)) (refused 255)
    ∷ call (read (fresh sigla) (filled 0)) (refused 3)
    ∷ call (make (fresh sigla)) (done 1)
    ∷ call (delete (fresh any_name)) (done 0)
    ∷ volume_at 0 (entry 15 sigla 0 0 0 [] ++ entry 0xE5 sigla 0 0 0 [] ++ empty 30)
    ∷ []

abbrev pub changes : List Script
changes =
    script (disk directory_changes) on_changes
    ∷ script volume_full on_full_more
    ∷ script (disk (empty 32)) on_users
    ∷ []

changes_hold : seen changes ≡ told changes
unfolding seen told old extents_from
changes_hold = refl

-- Altered volumes: in the map place 0 has block 1, place 1 is beyond T-1, place 2 is 0, and the state holds nothing
abbrev pub altered_map : List ℕ
altered_map = 1 ∷ 4 ∷ 0 ∷ []

abbrev pub on_altered : List Line
on_altered =
    call (log_in small) (free 3)
    ∷ altered (disk (entry 0 sigla 0 0 200 altered_map ++ empty 31))
    -- "the map place is not 0 and below D or beyond T-1"; "Only n's own place is tested."
    ∷ call (read (record_of sigla 8) (filled 0)) (refused 41)
    ∷ call (read_next (position_of 0 0 8) (filled 0)) (refused 41)
    ∷ call (write (record_of sigla 8) (filled 7)) (refused 41)
    ∷ call (read (record_of sigla 16) (filled 0)) (refused 1)
    -- "Rc shown in the control block is the extent's count"
    ∷ call (read (record_of sigla 1) (filled 0)) (done 0)
    ∷ buffer_is (old 1152 128)
    ∷ fcb_is (control sigla 0 0 128 altered_map 1 1)
    ∷ call (open_file (fresh sigla)) (done 0)
    ∷ fcb_is (control sigla 0 0 128 altered_map 0 0)
    ∷ call (size (fresh sigla)) (done 0)
    ∷ fcb_at 33 (128 ∷ 0 ∷ 0 ∷ [])
    -- "200 stays 200"; a write "stores there and leaves the held blocks alone": block 1 is still free
    ∷ call (write (record_of sigla 1) (filled 7)) (done 0)
    ∷ volume_at 0 (entry 0 sigla 0 0 200 altered_map ++ empty 31 ++ old 1024 128 ++ filled 7)
    ∷ fcb_is (control sigla 0 0 128 altered_map 1 1)
    ∷ call (write (record_of sigla 16) (filled 8)) (done 0)
    ∷ volume_at 0 (entry 0 sigla 0 0 200 (1 ∷ 4 ∷ 1 ∷ []) ++ empty 31 ++ filled 8 ++ filled 7)
    -- "1 before 41 in reads; in writes 41 whatever the count."
    ∷ altered (disk (entry 0 sigla 0 0 5 altered_map ++ empty 31))
    ∷ call (read (record_of sigla 8) (filled 0)) (refused 1)
    ∷ call (write (record_of sigla 8) (filled 7)) (refused 41)
    -- "numbers outside D to T-1 are passed over"
    ∷ call (delete (fresh sigla)) (done 0)
    ∷ call (make (fresh lemmata)) (done 0)
    ∷ call (write (record_of lemmata 0) (filled 7)) (done 0)
    ∷ volume_at 0 (entry 0 lemmata 0 0 1 (1 ∷ []) ++ empty 31)
    -- "Byte 0 of 10H..E4H or E6H..FFH (altered volumes) is neither empty nor anybody's."
    ∷ altered (disk (entry 0xE4 sigla 0 0 1 [] ++ entry 0xE6 sigla 0 0 1 [] ++ empty 30))
    ∷ call (size (fresh sigla)) (refused 255)
    ∷ call (make (fresh sigla)) (done 2)
    -- "Rename keeps exactly the top bits of bytes 9 and 10 of each entry."
    ∷ altered (disk (set (entry 0 (system_from 0xD3) 0 0 1 []) 8 0xA0 ++ empty 31))
    ∷ call (rename (renaming sigla (from 85))) (done 0)
    ∷ volume_at 0 (entry 0 (system_from 85) 0 0 1 [] ++ empty 31)
    -- "Where several entries fit, the lowest slot is meant."
    ∷ altered (disk (empty 1 ++ entry 0 sigla 0 0 1 (2 ∷ []) ++ entry 0 sigla 0 0 9 (3 ∷ []) ++ empty 29))
    ∷ call (read (record_of sigla 0) (filled 0)) (done 0)
    ∷ buffer_is (old 2048 128)
    ∷ call (close_file (fresh sigla)) (done 1)
    ∷ []

-- "below D", of B 1,024, T 3, D 2
abbrev pub on_below : List Line
on_below =
    call (log_in (geometry_of 1024 3 2)) (free 1)
    ∷ slots_are 64
    ∷ altered (entry 0 sigla 0 0 8 (1 ∷ []) ++ empty 63 ++ old 2048 1024)
    ∷ call (read (record_of sigla 0) (filled 0)) (refused 41)
    ∷ call (write (record_of sigla 0) (filled 7)) (refused 41)
    ∷ []

abbrev pub alterations : List Script
alterations = script (disk (empty 32)) on_altered ∷ script (empty 64 ++ old 2048 1024) on_below ∷ []

alterations_hold : seen alterations ≡ told alterations
unfolding seen told old
alterations_hold = refl

-- Inspection: a log-in over entries in the first slots, of B 1,024, T 4, D 1
abbrev pub inspected : List ℕ → ℕ → List ℕ → Script
inspected entries others answer = script (disk (entries ++ empty others)) (call (log_in small) answer ∷ [])

abbrev pub good : List ℕ
good = entry 0 lemmata 0 0 1 (1 ∷ [])

-- a good entry in slot 0, another in slot 1
abbrev pub second : List ℕ → List ℕ → Script
second e answer = inspected (good ++ e) 30 answer

abbrev pub inspections : List Script
inspections =
    -- "user is 0..15"
    second (entry 15 sigla 0 0 0 []) (free 2)
    ∷ second (entry 16 sigla 0 0 0 []) (bad_slot 1)
    -- "name bytes without top bits are 20H..7EH and not 3FH, the first not 20H"
    ∷ second (entry 0 (from 0x7E) 0 0 0 []) (free 2)
    ∷ second (entry 0 (from 0x7F) 0 0 0 []) (bad_slot 1)
    ∷ second (entry 0 (from 0x3F) 0 0 0 []) (bad_slot 1)
    ∷ second (entry 0 (from 0x20) 0 0 0 []) (bad_slot 1)
    ∷ second (set (entry 0 sigla 0 0 0 []) 11 0x1F) (bad_slot 1)
    -- "only bytes 9 and 10 may carry a top bit"
    ∷ second (set (set (entry 0 sigla 0 0 0 []) 9 0xD4) 10 0xD8) (free 2)
    ∷ second (set (entry 0 sigla 0 0 0 []) 8 0xA0) (bad_slot 1)
    ∷ second (set (entry 0 sigla 0 0 0 []) 11 0xD4) (bad_slot 1)
    ∷ second (entry 0 (from 0xD3) 0 0 0 []) (bad_slot 1)
    -- "ex is at most 31, s1 is 0, s2 at most 15, rc at most 128"
    ∷ second (entry 0 sigla 31 15 128 []) (free 2)
    ∷ second (entry 0 sigla 32 0 0 []) (bad_slot 1)
    ∷ second (set (entry 0 sigla 0 0 0 []) 13 1) (bad_slot 1)
    ∷ second (entry 0 sigla 0 16 0 []) (bad_slot 1)
    ∷ second (entry 0 sigla 0 0 129 []) (bad_slot 1)
    -- "each block number is 0 or from D to T-1"
    ∷ second (entry 0 sigla 0 0 0 (0 ∷ 3 ∷ 2 ∷ [])) (free 0)
    ∷ second (entry 0 sigla 0 0 0 (4 ∷ [])) (bad_slot 1)
    ∷ script (entry 0 sigla 0 0 0 (1 ∷ []) ++ empty 63 ++ old 2048 1024) (call (log_in (geometry_of 1024 3 2)) (bad_slot 0) ∷ [])
    ∷ second (entry 0 sigla 0 0 0 block3in15) (free 1)
    ∷ second (entry 0 sigla 0 0 0 block4in15) (bad_slot 1)
    -- "none but 0 occurs twice in it or in a lower slot that is not empty"
    ∷ second (entry 0 sigla 0 0 0 (2 ∷ 0 ∷ 2 ∷ [])) (bad_slot 1)
    ∷ second (entry 0 sigla 0 0 0 (2 ∷ 1 ∷ [])) (bad_slot 1)
    ∷ inspected (set good 0 0xE5 ++ entry 0 sigla 0 0 0 (1 ∷ [])) 30 (free 2)
    -- "no lower slot has the same user, name and group"
    ∷ second (entry 0 lemmata 0 0 1 []) (bad_slot 1)
    ∷ second (set (entry 0 lemmata 0 0 1 []) 9 0xD4) (bad_slot 1)
    ∷ second (entry 1 lemmata 0 0 1 []) (free 2)
    ∷ second (entry 0 lemmata 1 0 1 []) (free 2)
    ∷ second (entry 0 lemmata 0 1 1 []) (free 2)
    ∷ script (entry 0 lemmata 0 0 1 [] ++ entry 0 lemmata 1 0 1 [] ++ empty 62 ++ old 2048 2048) (call (log_in (geometry_of 2048 2 1)) (bad_slot 1) ∷ [])
    ∷ script (entry 0 lemmata 1 0 1 [] ++ entry 0 lemmata 2 0 1 [] ++ empty 62 ++ old 2048 2048) (call (log_in (geometry_of 2048 2 1)) (free 1) ∷ [])
    -- "good if empty", whatever else stands there
    ∷ second (set (entry 0xE5 (replicate 11 0) 99 99 99 (1 ∷ 1 ∷ 255 ∷ [])) 13 7) (free 2)
    -- "the lowest bad slot"
    ∷ inspected (good ++ empty 3 ++ entry 16 sigla 0 0 0 [] ++ entry 17 sigla 0 0 0 []) 26 (bad_slot 4)
    ∷ []

inspections_hold : seen inspections ≡ told inspections
unfolding seen told old
inspections_hold = refl

-- "A state whose geometry, user or kept search is outside the rules counts as closed."
abbrev pub state : Geometry → ℕ → SearchKind → ℕ → ℕ → List ℕ → Drive
state g current kind searcher last pattern =
    record {
      geometry = g;
      user = current;
      protected = true;
      search = record { kind = kind; user = searcher; last = last; pattern = pattern };
      held = replicate held_words 7;
    }

abbrev pub states : List Bool
states =
    is_open (state small 15 Nothing 99 99 [])
    ∷ is_open (state small 16 Nothing 0 0 [])
    ∷ is_open (state (geometry_of 1024 1 1) 0 Nothing 0 0 [])
    ∷ is_open (state small 0 Pattern 15 31 (any_name ++ (31 ∷ [])))
    ∷ is_open (state small 0 Pattern 15 31 (from 0xD3 ++ (63 ∷ [])))
    ∷ is_open (state small 0 Pattern 16 31 (sigla ++ (0 ∷ [])))
    ∷ is_open (state small 0 Pattern 15 32 (sigla ++ (0 ∷ [])))
    ∷ is_open (state small 0 Pattern 15 31 (from 0xA0 ++ (0 ∷ [])))
    ∷ is_open (state small 0 Pattern 15 31 (sigla ++ (32 ∷ [])))
    ∷ is_open (state small 0 Everything 15 31 (replicate 12 255))
    ∷ is_open (state small 0 Everything 16 31 (replicate 12 255))
    ∷ is_open (state small 0 Everything 15 32 (replicate 12 255))
    ∷ []

states_hold : states ≡ true ∷ false ∷ false ∷ true ∷ true ∷ false ∷ false ∷ false ∷ false ∷ true ∷ false ∷ false ∷ []
unfolding is_open lawful good_name name_at strip part all
states_hold = refl

-- What is lent: the first tests of every call, in order
abbrev pub on_lent : List Line
on_lent =
    -- "(not log-in) closed state"
    lent_fcb [] 32 ++ lent_buffer [] [] 32
    ++ (call (search_next []) (refused 32)
    ∷ call (set_random []) (refused 32)
    ∷ call (user 16) (refused 32)
    ∷ call protect (refused 32)
    -- "geometry outside the rules"; "length of volume"
    ∷ call (log_in (geometry_of 512 4 1)) (refused 32)
    ∷ call (log_in (geometry_of 1024 5 1)) (refused 33)
    ∷ call (log_in small) (free 3)
    ∷ altered []
    ∷ [])
    ++ lent_fcb [] 33 ++ lent_buffer [] [] 33
    ++ (call (search_next []) (refused 33)
    -- "User, 28 and 36 are lent no volume"
    ∷ call (set_random []) (refused 34)
    ∷ call (user 0) (done 0)
    ∷ call protect (done 0)
    ∷ altered (disk (empty 32))
    ∷ [])
    -- "control block not 36; transfer buffer not 128 (as far as lent)"; "dr not 0 or 1 (search: 63 also)"
    ++ lent_fcb [] 34 ++ lent_buffer [] [] 34
    ++ lent_fcb (replicate 36 2) 42 ++ lent_buffer (replicate 36 2) [] 35 ++ lent_buffer (replicate 36 2) (filled 0) 42
    ++ (call (search_next []) (refused 35)
    ∷ call (set_random (replicate 36 2)) (refused 42)
    -- the closed state behind a refused log-in
    ∷ call (log_in (geometry_of 1024 5 1)) (refused 33)
    ∷ call protect (refused 32)
    ∷ [])

abbrev pub lendings : List Script
lendings = script (disk (empty 32)) on_lent ∷ []

lendings_hold : seen lendings ≡ told lendings
unfolding seen told old
lendings_hold = refl

-- "B is 1,024, 2,048 or 4,096; T is 2 to 256; the first D blocks are directory, D from 1 to 16 and below T."
abbrev pub geometries : List Bool
geometries =
    lawful (geometry_of 1024 2 1)
    ∷ lawful (geometry_of 2048 17 16)
    ∷ lawful (geometry_of 4096 256 16)
    ∷ lawful (geometry_of 4095 256 16)
    ∷ lawful (geometry_of 4097 256 16)
    ∷ lawful (geometry_of 512 4 1)
    ∷ lawful (geometry_of 3072 4 1)
    ∷ lawful (geometry_of 8192 4 1)
    ∷ lawful (geometry_of 1024 1 0)
    ∷ lawful (geometry_of 1024 257 1)
    ∷ lawful (geometry_of 1024 4 0)
    ∷ lawful (geometry_of 1024 18 17)
    ∷ lawful (geometry_of 1024 4 4)
    ∷ []

geometries_hold : geometries ≡ true ∷ true ∷ true ∷ false ∷ false ∷ false ∷ false ∷ false ∷ false ∷ false ∷ false ∷ false ∷ false ∷ []
unfolding lawful
geometries_hold = refl

-- The held blocks in their words: 63 and 64, 127 and 128, 191 and 192, 255 lie at the ends of words.
abbrev pub at_ends : ℕ → Bool
at_ends b = eqb b 63 || eqb b 64 || eqb b 127 || eqb b 128 || eqb b 191 || eqb b 192 || eqb b 255

abbrev pub top : ℕ
top = 2 ^ 63

abbrev pub ends : ℕ
ends = 2 ^ 63 + 1

abbrev pub shown_words : List (List ℕ)
shown_words =
    words_of at_ends
    ∷ hold (hold (hold (hold (hold none_held 1) 64) 130) 127) 255
    ∷ hold (words_of at_ends) 64
    ∷ release (release (release (words_of at_ends) 63) 64) 191
    ∷ release (words_of at_ends) 65
    -- "numbers outside D to T-1 are passed over": of blocks 0, 1, 2 and 4, delete frees 1
    ∷ free_matches small (disk (entry 0 sigla 0 0 0 (1 ∷ 0 ∷ 4 ∷ []) ++ entry 0 lemmata 0 0 0 (2 ∷ []) ++ empty 30)) 0 sigla (23 ∷ 0 ∷ 0 ∷ 0 ∷ [])
    -- the lowest free block, T where none is, and how many are
    ∷ (lowest_free (release (words_of (λ b. true)) 200) 1 256 ∷ lowest_free (words_of (λ b. ltb b 130)) 1 130 ∷ free_count (words_of at_ends) 1 256 ∷ [])
    ∷ []

abbrev pub expected_words : List (List ℕ)
expected_words =
    words (top ∷ ends ∷ ends ∷ ends ∷ [])
    ∷ words (2 ∷ ends ∷ 4 ∷ top ∷ [])
    ∷ words (top ∷ ends ∷ ends ∷ ends ∷ [])
    ∷ words (0 ∷ top ∷ 1 ∷ ends ∷ [])
    ∷ words (top ∷ ends ∷ ends ∷ ends ∷ [])
    ∷ (21 ∷ 0 ∷ 0 ∷ 0 ∷ [])
    ∷ (200 ∷ 130 ∷ 248 ∷ [])
    ∷ []

words_hold : shown_words ≡ expected_words
unfolding seen old
words_hold = refl
