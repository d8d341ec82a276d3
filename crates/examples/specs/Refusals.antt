-- "Numbers of refusal, in order of test", where more than one is met; what a call looks at and what it doesn't; and what
-- protection doesn't touch. Values are worked out by hand.
use Rattle.std.specs.Prelude.{◌≡◌, refl, List, [], ◌∷◌, ◌++◌, ℕ, replicate, set}
use Rattle.disk_geometry.specs.Geometry.{geometry_of}
use Rattle.call_fcb.specs.Fcb.{DR, CR}
use Rattle.examples.specs.Script.{log_in, open_file, close_file, search_first, search_next, delete, read_next, write_next, make, rename, protect, attributes, user, read, write, size, set_random, write_zero_fill, done, free, refused, bad_slot, Line, call, altered, held_are, fcb_is, buffer_is, Script, script, lent_fcb, lent_buffer, seen, told}
use Rattle.examples.specs.Samples.{sigla, lemmata, from, sigla_read_only, small, disk, entry, empty, control, fresh, record_of, extent_of, renaming, filled, old}

-- a control block that no rule allows, but for dr; the last byte of its name is 7FH with a top bit
abbrev pub worst : ℕ → List ℕ
worst dr = set (replicate 36 255) DR dr

-- SIGLA.TXT with another last byte
abbrev pub ending : ℕ → List ℕ
ending x = set sigla 10 x

-- a control block of SIGLA.TXT at the position 65,536, by ex 32, which is too large
abbrev pub beyond_by_ex : List ℕ
beyond_by_ex = control sigla 32 15 0 [] 0 0

abbrev pub on_order : List Line
on_order =
    (call (log_in small) (free 2) ∷ [])
    -- 42 before 39, 45, 40 and 6, with dr 63 too, but for search
    ++ lent_fcb (worst 2) 42 ++ lent_buffer (worst 2) (filled 0) 42
    ++ lent_fcb (worst 63) 42
    ++ (call (read_next (worst 63) (filled 0)) (refused 42)
    ∷ call (write_next (worst 63) (filled 0)) (refused 42)
    ∷ call (read (worst 63) (filled 0)) (refused 42)
    ∷ call (write (worst 63) (filled 0)) (refused 42)
    ∷ call (write_zero_fill (worst 63) (filled 0)) (refused 42)
    ∷ call (set_random (worst 63)) (refused 42)
    ∷ call (search_first (worst 0xBF) (filled 0)) (refused 42)
    ∷ [])
    -- 39 before 45, 40 and 6; 36 examines no name
    ++ lent_fcb (worst 0) 39 ++ lent_buffer (worst 0) (filled 0) 39
    ++ lent_fcb (worst 1) 39 ++ lent_buffer (worst 1) (filled 0) 39
    ++ (call (set_random (worst 1)) (refused 40)
    ∷ fcb_is (worst 1)
    -- "name bytes .. are 20H..7EH": each of the eleven, of both names of a rename
    ∷ call (open_file (fresh (ending 0x1F))) (refused 39)
    ∷ call (open_file (fresh (ending 0x7F))) (refused 39)
    ∷ call (open_file (fresh (ending 0x20))) (refused 255)
    ∷ call (open_file (fresh (ending 0x7E))) (refused 255)
    ∷ call (make (fresh (ending 0x3F))) (refused 39)
    ∷ call (rename (renaming (ending 0xFF) lemmata)) (refused 39)
    ∷ call (rename (renaming sigla (ending 0xFF))) (refused 39)
    ∷ call (rename (renaming sigla (from 0x20))) (refused 39)
    -- 40 before 6
    ∷ call (read_next beyond_by_ex (filled 0)) (refused 40)
    ∷ call (write_next beyond_by_ex (filled 0)) (refused 40)
    ∷ call (set_random beyond_by_ex) (refused 40)
    -- "40 .. where used": "ex only" in open and search, "ex and s2" in close, all three in sequential calls and 36
    ∷ call (open_file (control sigla 0 16 0 [] 129 0)) (done 0)
    ∷ call (search_first (control sigla 0 16 0 [] 129 0) (filled 0)) (done 0)
    ∷ call (search_first (extent_of sigla 0xBF) (filled 0)) (refused 40)
    ∷ call (close_file (control sigla 0 0 0 [] 129 0)) (done 0)
    ∷ call (close_file (control sigla 0 16 0 [] 0 0)) (refused 40)
    ∷ call (write_next (control sigla 32 0 0 [] 0 0) (filled 0)) (refused 40)
    ∷ call (write_next (control sigla 0 16 0 [] 0 0) (filled 0)) (refused 40)
    ∷ call (set_random (control sigla 32 0 0 [] 0 0)) (refused 40)
    ∷ call (set_random (control sigla 0 16 0 [] 0 0)) (refused 40)
    -- 6 before 3; 3 before all else of the directory
    ∷ call (read (record_of lemmata 65536) (filled 0)) (refused 6)
    ∷ call (write (record_of lemmata 65536) (filled 0)) (refused 6)
    ∷ call (read_next (control lemmata 31 15 0 [] 128 0) (filled 0)) (refused 6)
    ∷ call (write_next (control lemmata 31 15 0 [] 128 0) (filled 0)) (refused 6)
    ∷ call (read (record_of lemmata 0) (filled 0)) (refused 3)
    -- 40 and 6 before 37
    ∷ call (search_first (extent_of sigla 0x3F) (filled 0)) (done 0)
    ∷ call protect (done 0)
    ∷ call (make (extent_of lemmata 1)) (refused 40)
    ∷ call (write_next (set (fresh sigla) CR 129) (filled 0)) (refused 40)
    ∷ call (write_next (control sigla 31 15 0 [] 128 0) (filled 0)) (refused 6)
    ∷ call (write_zero_fill (record_of sigla 65536) (filled 0)) (refused 6)
    -- 37 before 38, 43 and 3: the file is read-only
    ∷ call (write (record_of sigla 0) (filled 0)) (refused 37)
    ∷ call (write (record_of lemmata 0) (filled 0)) (refused 37)
    ∷ call (rename (renaming sigla sigla)) (refused 37)
    ∷ call (make (fresh sigla)) (refused 37)
    ∷ call (delete (fresh sigla)) (refused 37)
    ∷ call (attributes (fresh sigla)) (refused 37)
    -- "protected: delete, make, rename, attributes, writes", and no other call
    ∷ call (open_file (fresh sigla)) (done 0)
    ∷ call (close_file (fresh sigla)) (done 0)
    ∷ call (search_next (filled 0)) (done 1)
    ∷ call (search_first (fresh sigla) (filled 0)) (done 0)
    ∷ call (size (fresh sigla)) (done 0)
    ∷ call (set_random (fresh sigla)) (done 0)
    ∷ call (read_next (fresh sigla) (filled 0)) (done 0)
    ∷ buffer_is (old 1024 128)
    ∷ call (user 255) (done 0)
    ∷ call (user 3) (done 0)
    ∷ call (delete (fresh sigla)) (refused 37)
    ∷ call protect (done 0)
    ∷ held_are (2 ∷ 0 ∷ 0 ∷ 0 ∷ [])
    ∷ [])

-- "length of volume; control block not 36; transfer buffer not 128": a byte more and a byte less
abbrev pub on_lengths : List Line
on_lengths =
    (call (log_in (geometry_of 1024 3 1)) (refused 33)
    ∷ call (log_in (geometry_of 1024 5 1)) (refused 33)
    ∷ call (log_in small) (free 3)
    ∷ [])
    ++ lent_fcb (replicate 35 0) 34 ++ lent_fcb (replicate 37 0) 34
    ++ lent_buffer (replicate 35 0) [] 34 ++ lent_buffer (replicate 37 0) [] 34
    ++ lent_buffer (fresh sigla) (replicate 127 0) 35 ++ lent_buffer (fresh sigla) (replicate 129 0) 35
    ++ (call (search_next (replicate 127 0)) (refused 35)
    ∷ call (search_next (replicate 129 0)) (refused 35)
    ∷ call (set_random (replicate 35 0)) (refused 34)
    ∷ call (set_random (replicate 37 0)) (refused 34)
    ∷ altered (disk (empty 32) ++ (0 ∷ []))
    ∷ [])
    ++ lent_fcb (fresh sigla) 33 ++ lent_buffer (fresh sigla) (filled 0) 33
    ++ (call (search_next (filled 0)) (refused 33) ∷ altered (empty 32 ++ old 1024 3071) ∷ [])
    ++ lent_fcb (fresh sigla) 33 ++ lent_buffer (fresh sigla) (filled 0) 33
    ++ (call (search_next (filled 0)) (refused 33) ∷ call (set_random (fresh sigla)) (done 0) ∷ [])

-- Log-in: a bad slot is looked for last, and a log-in that finds one closes the drive as any refused log-in does; "0 for
-- other refusals" stands in the count's place
abbrev pub on_bad_slot : List Line
on_bad_slot =
    call (log_in (geometry_of 1024 4 0)) (refused 32)
    ∷ call (log_in (geometry_of 1024 5 1)) (refused 33)
    ∷ call (log_in small) (bad_slot 3)
    ∷ call (user 255) (refused 32)
    ∷ call (open_file (fresh sigla)) (refused 32)
    ∷ call protect (refused 32)
    ∷ []

abbrev pub refusals : List Script
refusals =
    script (disk (entry 0 sigla_read_only 0 0 3 (1 ∷ []) ++ entry 0 sigla_read_only 1 0 0 [] ++ empty 30)) on_order
    ∷ script (disk (empty 3 ++ entry 16 sigla 0 0 0 [] ++ empty 28)) on_bad_slot
    ∷ script (disk (empty 32)) on_lengths
    ∷ []

refusals_hold : seen refusals ≡ told refusals
unfolding seen told old
refusals_hold = refl
