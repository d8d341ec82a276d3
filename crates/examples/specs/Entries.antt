-- Files of several entries, files without a first extent, files of the same name of two users, entries of several extents,
-- entries that no log-in would accept, and the last slot: "A file is all entries of one user and one name." Values are
-- worked out by hand.
use Rattle.std.specs.Prelude.{◌≡◌, refl, List, [], ◌∷◌, ◌++◌, ℕ, set}
use Rattle.disk_geometry.specs.Geometry.{geometry_of}
use Rattle.disk_volume.specs.Fields.{S1, EMPTY}
use Rattle.examples.specs.Script.{log_in, open_file, close_file, delete, read_next, write_next, make, rename, protect, attributes, user, read, write, size, write_zero_fill, done, free, refused, bad_slot, Line, call, altered, slots_are, held_are, volume_at, fcb_at, fcb_is, buffer_is, Script, script, seen, told}
use Rattle.examples.specs.Samples.{sigla, lemmata, from, system_from, sigla_read_only, topped, any_name, small, disk, in_place, entry, empty, control, fresh, record_of, extent_of, renaming, filled, old}

-- LEMMATA.TXT as a system file
abbrev pub lemmata_system : List ℕ
lemmata_system = 76 ∷ 69 ∷ 77 ∷ 77 ∷ 65 ∷ 84 ∷ 65 ∷ 32 ∷ 84 ∷ 0xD8 ∷ 84 ∷ []

-- the second extent of a file in slot 0, its first in slot 1
abbrev pub turned : List ℕ → List ℕ → List ℕ
turned later first = entry 0 later 1 0 5 (1 ∷ []) ++ entry 0 first 0 0 3 (2 ∷ [])

abbrev pub lemmata_third : List ℕ
lemmata_third = entry 0 lemmata_system 2 0 7 []

-- Only the second entry of SIGLA.TXT is read-only, and it is the first extent; LEMMATA.TXT has its third extent alone
abbrev pub on_second : List Line
on_second =
    call (log_in small) (free 1)
    -- "writes, rename: any entry of the file is read-only; delete: any match is": record 128 is in the first entry
    ∷ call (write (record_of sigla 128) (filled 7)) (refused 38)
    ∷ call (write_next (extent_of sigla 1) (filled 7)) (refused 38)
    ∷ call (write_zero_fill (record_of sigla 128) (filled 7)) (refused 38)
    ∷ call (write (record_of sigla 384) (filled 7)) (refused 38)
    ∷ call (rename (renaming sigla (from 85))) (refused 38)
    ∷ call (delete (fresh sigla)) (refused 38)
    ∷ call (delete (fresh any_name)) (refused 38)
    -- 38 before 43, 255 before 43
    ∷ call (rename (renaming sigla lemmata)) (refused 38)
    ∷ call (rename (renaming (from 85) lemmata)) (refused 255)
    -- "the (new) name exists": in a later extent alone, and in an entry with top bits
    ∷ call (make (fresh lemmata)) (refused 43)
    ∷ call (rename (renaming lemmata sigla)) (refused 43)
    ∷ call (attributes (fresh sigla)) (done 0)
    ∷ call (rename (renaming sigla lemmata)) (refused 43)
    ∷ volume_at 0 (turned sigla sigla ++ lemmata_third ++ empty 29)
    -- "the largest 128E + min(rc, 128)": it is in the lower slot
    ∷ call (size (fresh sigla)) (done 0)
    ∷ fcb_is (record_of sigla 133)
    ∷ call (size (fresh lemmata)) (done 0)
    ∷ fcb_is (record_of lemmata 263)
    -- a file without a first extent: opened and closed in the group that it has; 4, not 3, in the others
    ∷ call (open_file (extent_of lemmata 0)) (refused 255)
    ∷ call (open_file (extent_of lemmata 2)) (done 2)
    ∷ fcb_is (control lemmata_system 2 0 7 [] 0 0)
    ∷ call (close_file (extent_of lemmata 0)) (refused 255)
    ∷ call (close_file (extent_of lemmata 2)) (done 2)
    ∷ call (read (record_of lemmata 0) (filled 0)) (refused 4)
    ∷ call (read_next (extent_of lemmata 0) (filled 0)) (refused 1)
    ∷ call (read (record_of (from 85) 0) (filled 0)) (refused 3)
    ∷ call (read_next (extent_of (from 85) 0) (filled 0)) (refused 3)
    -- its first extent, written now, has "bytes 0 to 11 of the file's lowest entry"
    ∷ call (write (record_of lemmata 1) (filled 7)) (done 0)
    ∷ volume_at 64 (lemmata_third ++ entry 0 lemmata_system 0 0 2 (3 ∷ []) ++ empty 28)
    ∷ call (rename (renaming lemmata (from 85))) (done 0)
    ∷ volume_at 64 (entry 0 (system_from 85) 2 0 7 [] ++ entry 0 (system_from 85) 0 0 2 (3 ∷ []) ++ empty 28)
    ∷ []

-- The first entry of SIGLA.TXT is a system file and has the second extent, the second has the first: attribute bits are
-- each entry's own
abbrev pub on_mixed : List Line
on_mixed =
    call (log_in small) (free 1)
    ∷ call (rename (renaming sigla (from 85))) (done 0)
    ∷ volume_at 0 (turned (system_from 85) (from 85) ++ empty 30)
    -- "the file's lowest entry" is the one in the lowest slot, not of the lowest extent
    ∷ call (write (record_of (from 85) 256) (filled 7)) (done 0)
    ∷ volume_at 0 (turned (system_from 85) (from 85) ++ entry 0 (system_from 85) 2 0 1 (3 ∷ []) ++ empty 29)
    -- read-only is no bar to attributes, and they go to every entry
    ∷ call (attributes (fresh (topped 85))) (done 0)
    ∷ call (write (record_of (from 85) 0) (filled 8)) (refused 38)
    ∷ call (attributes (fresh (system_from 85))) (done 0)
    ∷ volume_at 0 (turned (system_from 85) (system_from 85) ++ entry 0 (system_from 85) 2 0 1 (3 ∷ []) ++ empty 29)
    ∷ []

-- Two users: slot 0 is read-only and user 1's, slot 1 is user 0's, of the same name; user 1 has LEMMATA.TXT too
abbrev pub user1_entry : List ℕ
user1_entry = entry 1 sigla_read_only 0 0 8 (1 ∷ [])

-- user 0's after it is renamed, and two extents of LEMMATA.TXT
abbrev pub user0_entry : List ℕ
user0_entry = entry 0 lemmata_system 0 0 3 (2 ∷ [])

abbrev pub lemmata_of : ℕ → List ℕ
lemmata_of whose = entry whose lemmata 0 0 0 [] ++ entry whose lemmata 1 0 1 (3 ∷ [])

abbrev pub on_two_users : List Line
on_two_users =
    call (log_in small) (free 1)
    -- open, close, size, reads and writes mean the current user's
    ∷ call (open_file (fresh any_name)) (done 1)
    ∷ fcb_is (control sigla 0 0 2 (2 ∷ []) 0 0)
    ∷ call (close_file (fresh sigla)) (done 1)
    ∷ call (size (fresh sigla)) (done 0)
    ∷ fcb_is (record_of sigla 2)
    ∷ call (read (record_of sigla 5) (filled 0)) (refused 1)
    ∷ call (read (record_of sigla 1) (filled 0)) (done 0)
    ∷ buffer_is (old 2176 128)
    ∷ call (write (record_of sigla 2) (filled 7)) (done 0)
    ∷ volume_at 0 (user1_entry ++ entry 0 sigla 0 0 3 (2 ∷ []) ++ entry 1 lemmata 0 0 0 [] ++ empty 29)
    ∷ volume_at 1024 (old 1024 1280 ++ filled 7 ++ old 2432 1664)
    ∷ call (open_file (fresh lemmata)) (refused 255)
    -- so do attributes and rename: that another user has the new name is no matter
    ∷ call (attributes (fresh (system_from 83))) (done 0)
    ∷ call (rename (renaming sigla lemmata)) (done 0)
    ∷ volume_at 0 (user1_entry ++ user0_entry ++ entry 1 lemmata 0 0 0 [] ++ empty 29)
    ∷ call (user 1) (done 0)
    ∷ call (rename (renaming sigla (from 85))) (refused 38)
    ∷ call (delete (fresh any_name)) (refused 38)
    -- "bytes 0 to 11 of the file's lowest entry": its user too; the user stays over a write and a delete
    ∷ call (write (record_of lemmata 128) (filled 8)) (done 0)
    ∷ volume_at 32 (user0_entry ++ lemmata_of 1 ++ empty 28)
    ∷ held_are (14 ∷ 0 ∷ 0 ∷ 0 ∷ [])
    ∷ call (user 255) (done 1)
    ∷ call (delete (fresh lemmata)) (done 0)
    ∷ volume_at 32 (user0_entry ++ lemmata_of EMPTY ++ empty 28)
    ∷ held_are (6 ∷ 0 ∷ 0 ∷ 0 ∷ [])
    ∷ call (user 255) (done 1)
    -- so does delete, and a read-only entry of another user is no bar; its block stays held
    ∷ call (user 0) (done 0)
    ∷ call (delete (fresh any_name)) (done 0)
    ∷ volume_at 0 (user1_entry ++ entry EMPTY lemmata_system 0 0 3 (2 ∷ []))
    ∷ held_are (2 ∷ 0 ∷ 0 ∷ 0 ∷ [])
    -- 28 "protects until the next log-in", whoever is the user
    ∷ call protect (done 0)
    ∷ call (user 7) (done 0)
    ∷ call (make (fresh sigla)) (refused 37)
    ∷ call (user 255) (done 7)
    -- log-in answers "a state with user 0, not protected"
    ∷ call (log_in small) (free 2)
    ∷ call (user 255) (done 0)
    ∷ call (make (fresh sigla)) (done 1)
    ∷ []

abbrev pub file_entries : List Script
file_entries =
    script (disk (turned sigla sigla_read_only ++ lemmata_third ++ empty 29)) on_second
    ∷ script (disk (turned (system_from 83) sigla ++ empty 30)) on_mixed
    ∷ script (disk (user1_entry ++ entry 0 sigla 0 0 2 (2 ∷ []) ++ entry 1 lemmata 0 0 0 [] ++ empty 29)) on_two_users
    ∷ []

file_entries_hold : seen file_entries ≡ told file_entries
unfolding seen told old
file_entries_hold = refl

-- B 2,048, two extents an entry: the entry is of extent 0 with ten records, block 1 in place 0
abbrev pub blocks1in0and2in8 : List ℕ
blocks1in0and2in8 = 1 ∷ in_place 7 2

abbrev pub on_growing : List Line
on_growing =
    call (log_in (geometry_of 2048 4 1)) (free 2)
    ∷ call (read (record_of sigla 12) (filled 0)) (refused 1)
    -- "the group of (s2, ex) has an entry": extent 1 is of the group
    ∷ call (close_file (extent_of sigla 1)) (done 0)
    -- "If the extent of n is above the entry's .. rc is n mod 128 + 1", though it was larger
    ∷ call (write (record_of sigla 130) (filled 7)) (done 0)
    ∷ volume_at 0 (entry 0 sigla 1 0 3 blocks1in0and2in8 ++ empty 63)
    ∷ volume_at 2048 (old 2048 2304 ++ filled 7 ++ old 4480 3712)
    ∷ fcb_is (control sigla 1 0 3 blocks1in0and2in8 2 130)
    -- "a write in a later extent makes earlier ones of the entry count 128"
    ∷ call (read (record_of sigla 12) (filled 0)) (done 0)
    ∷ fcb_is (control sigla 0 0 128 blocks1in0and2in8 12 12)
    ∷ buffer_is (old 3584 128)
    ∷ call (read_next (control sigla 0 0 0 [] 12 0) (filled 0)) (done 0)
    ∷ fcb_is (control sigla 0 0 128 blocks1in0and2in8 13 0)
    ∷ call (read (record_of sigla 16) (filled 0)) (refused 1)
    -- "if equal, rc is the larger of both", in the second extent
    ∷ call (write (record_of sigla 129) (filled 8)) (done 0)
    ∷ volume_at 0 (entry 0 sigla 1 0 3 blocks1in0and2in8 ++ empty 63)
    ∷ call (write (record_of sigla 131) (filled 9)) (done 0)
    ∷ volume_at 0 (entry 0 sigla 1 0 4 blocks1in0and2in8 ++ empty 63)
    ∷ volume_at 4096 (old 4096 128 ++ filled 8 ++ filled 7 ++ filled 9 ++ old 4608 3584)
    ∷ call (size (fresh sigla)) (done 0)
    ∷ fcb_is (record_of sigla 132)
    ∷ []

-- B 4,096: four extents an entry, 32 records a block
abbrev pub blocks1in9and2in15 : List ℕ
blocks1in9and2in15 = in_place 9 1 ++ in_place 5 2

abbrev pub on_four_extents : List Line
on_four_extents =
    call (log_in (geometry_of 4096 3 1)) (free 2)
    ∷ slots_are 128
    -- record 300: extent 2, place 300 div 32, the 13th record of its block
    ∷ call (write (record_of sigla 300) (filled 7)) (done 0)
    ∷ volume_at 0 (entry 0 sigla 2 0 45 (in_place 9 1) ++ empty 127)
    ∷ volume_at 4096 (old 4096 1536 ++ filled 7 ++ old 5760 6528)
    ∷ fcb_is (control sigla 2 0 45 (in_place 9 1) 44 300)
    ∷ call (open_file (extent_of sigla 1)) (done 0)
    ∷ fcb_is (control sigla 1 0 128 (in_place 9 1) 0 0)
    ∷ call (open_file (extent_of sigla 3)) (done 0)
    ∷ fcb_is (control sigla 3 0 0 (in_place 9 1) 0 0)
    ∷ call (open_file (extent_of sigla 4)) (refused 255)
    ∷ call (read (record_of sigla 319) (filled 0)) (refused 1)
    -- record 511: extent 3, the last record of the last place
    ∷ call (write (record_of sigla 511) (filled 8)) (done 0)
    ∷ volume_at 0 (entry 0 sigla 3 0 128 blocks1in9and2in15 ++ empty 127)
    ∷ volume_at 12032 (old 12032 128 ++ filled 8)
    ∷ call (read (record_of sigla 319) (filled 0)) (done 0)
    ∷ fcb_is (control sigla 2 0 128 blocks1in9and2in15 63 319)
    ∷ buffer_is (old 8064 128)
    ∷ call (read (record_of sigla 512) (filled 0)) (refused 4)
    ∷ call (write (record_of sigla 512) (filled 9)) (refused 2)
    ∷ []

abbrev pub long_entries : List Script
long_entries =
    script (entry 0 sigla 0 0 10 (1 ∷ []) ++ empty 63 ++ old 2048 6144) on_growing
    ∷ script (entry 0 sigla 0 0 0 [] ++ empty 127 ++ old 4096 8192) on_four_extents
    ∷ []

long_entries_hold : seen long_entries ≡ told long_entries
unfolding seen told old
long_entries_hold = refl

-- Altered volumes: a name's first byte with a top bit, s1 not 0
abbrev pub odd_entry : ℕ → List ℕ
odd_entry rc = set (entry 0 (from 0xD3) 0 0 rc (1 ∷ [])) S1 5

abbrev pub on_odd : List Line
on_odd =
    call (log_in small) (free 3)
    ∷ altered (disk (odd_entry 3 ++ empty 31))
    ∷ call (make (fresh sigla)) (refused 43)
    ∷ call (open_file (set (fresh sigla) S1 9)) (done 0)
    ∷ fcb_is (control (from 0xD3) 0 0 3 (1 ∷ []) 0 0)
    -- "Bytes not named stay as they were": the entry's name and s1, and s1 of the control block
    ∷ call (write (record_of sigla 3) (filled 7)) (done 0)
    ∷ volume_at 0 (odd_entry 4 ++ empty 31)
    ∷ fcb_is (control sigla 0 0 4 (1 ∷ []) 3 3)
    -- "bytes 0 to 11 of the file's lowest entry, s1 0"
    ∷ call (write (record_of sigla 128) (filled 8)) (done 0)
    ∷ volume_at 0 (odd_entry 4 ++ entry 0 (from 0xD3) 1 0 1 (1 ∷ []) ++ empty 30)
    ∷ call (attributes (fresh sigla_read_only)) (done 0)
    ∷ volume_at 0 (set (odd_entry 4) 9 0xD4 ++ set (entry 0 (from 0xD3) 1 0 1 (1 ∷ [])) 9 0xD4 ++ empty 30)
    ∷ call (attributes (fresh sigla)) (done 0)
    ∷ call (rename (renaming sigla (from 85))) (done 0)
    ∷ volume_at 0 (set (entry 0 (from 85) 0 0 4 (1 ∷ [])) S1 5 ++ entry 0 (from 85) 1 0 1 (1 ∷ []) ++ empty 30)
    ∷ call (delete (fresh (from 85))) (done 0)
    ∷ volume_at 0 (set (entry EMPTY (from 85) 0 0 4 (1 ∷ [])) S1 5 ++ entry EMPTY (from 85) 1 0 1 (1 ∷ []) ++ empty 30)
    -- "user, name without top bits, all else 0", whatever the empty slot had
    ∷ call (make (fresh sigla)) (done 0)
    ∷ volume_at 0 (entry 0 sigla 0 0 0 [] ++ entry EMPTY (from 85) 1 0 1 (1 ∷ []) ++ empty 30)
    -- "Extent number E = 32 times s2 plus ex" with ex 40: extent 40, which "set to n" writes as ex 8, s2 1
    ∷ altered (disk (entry 0 sigla 40 0 3 (2 ∷ []) ++ empty 31))
    ∷ call (read (record_of sigla 5121) (filled 0)) (done 0)
    ∷ fcb_is (control sigla 8 1 3 (2 ∷ []) 1 5121)
    ∷ buffer_is (old 2176 128)
    ∷ call (close_file (control sigla 8 1 0 [] 0 0)) (done 0)
    ∷ call (open_file (extent_of sigla 8)) (refused 255)
    ∷ call (size (fresh sigla)) (done 0)
    ∷ fcb_at 33 (3 ∷ 20 ∷ 0 ∷ [])
    -- 38 before 41
    ∷ altered (disk (entry 0 sigla_read_only 0 0 8 (4 ∷ []) ++ empty 31))
    ∷ call (write (record_of sigla 0) (filled 7)) (refused 38)
    ∷ call (read (record_of sigla 0) (filled 0)) (refused 41)
    -- "Where several entries fit, the lowest slot is meant": open and write
    ∷ altered (disk (empty 1 ++ entry 0 sigla 0 0 1 (2 ∷ []) ++ entry 0 sigla 0 0 9 (3 ∷ []) ++ empty 29))
    ∷ call (open_file (fresh sigla)) (done 1)
    ∷ fcb_is (control sigla 0 0 1 (2 ∷ []) 0 0)
    ∷ call (write (record_of sigla 1) (filled 9)) (done 0)
    ∷ volume_at 0 (empty 1 ++ entry 0 sigla 0 0 2 (2 ∷ []) ++ entry 0 sigla 0 0 9 (3 ∷ []) ++ empty 29)
    ∷ volume_at 2048 (old 2048 128 ++ filled 9 ++ old 2304 1792)
    ∷ []

-- B 1,024, T 4, D 2: SIGLA.TXT is in the last slot, 63, and has the last block in the last place
abbrev pub blocks2in0and3in15 : List ℕ
blocks2in0and3in15 = 2 ∷ in_place 14 3

abbrev pub on_last : List Line
on_last =
    call (log_in (geometry_of 1024 4 2)) (free 1)
    ∷ slots_are 64
    ∷ held_are (8 ∷ 0 ∷ 0 ∷ 0 ∷ [])
    ∷ call (open_file (fresh sigla)) (done 3)
    ∷ call (size (fresh sigla)) (done 0)
    ∷ fcb_is (record_of sigla 128)
    ∷ call (read (record_of sigla 127) (filled 0)) (done 0)
    ∷ fcb_is (control sigla 0 0 128 (in_place 15 3) 127 127)
    ∷ buffer_is (old 3968 128)
    ∷ call (make (fresh sigla)) (refused 43)
    ∷ call (attributes (fresh (system_from 83))) (done 0)
    ∷ call (rename (renaming sigla (from 85))) (done 0)
    ∷ volume_at 0 (empty 63 ++ entry 0 (system_from 85) 0 0 128 (in_place 15 3))
    ∷ call (write (record_of (from 85) 0) (filled 7)) (done 0)
    ∷ volume_at 0 (empty 63 ++ entry 0 (system_from 85) 0 0 128 blocks2in0and3in15 ++ filled 7 ++ old 2176 1920)
    ∷ held_are (12 ∷ 0 ∷ 0 ∷ 0 ∷ [])
    -- "their blocks are free": that of the first place and that of the last
    ∷ call (delete (fresh (from 85))) (done 0)
    ∷ volume_at 0 (empty 63 ++ entry EMPTY (system_from 85) 0 0 128 blocks2in0and3in15)
    ∷ held_are (0 ∷ 0 ∷ 0 ∷ 0 ∷ [])
    ∷ []

abbrev pub last_slot : ℕ → List ℕ
last_slot whose = empty 63 ++ entry whose sigla 0 0 128 (in_place 15 3) ++ old 2048 2048

abbrev pub odd_entries : List Script
odd_entries =
    script (disk (empty 32)) on_odd
    ∷ script (last_slot 0) on_last
    ∷ script (last_slot 16) (call (log_in (geometry_of 1024 4 2)) (bad_slot 63) ∷ [])
    ∷ []

odd_entries_hold : seen odd_entries ≡ told odd_entries
unfolding seen told old
odd_entries_hold = refl
