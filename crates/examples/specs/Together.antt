-- Request (ix), "keep a file's blocks together", evaluated: which block a write takes where a free one below is passed over,
-- where all above are held, at a first place, where places were used out of order, and on altered volumes. All values are
-- worked out by hand from the request: "A block is now the lowest free one above the block in the nearest lower used place
-- of the same entry, and the lowest free one where that place or such a block doesn't exist."
use Rattle.std.specs.Prelude.{◌≡◌, refl, List, [], ◌∷◌, ◌++◌, ℕ, replicate}
use Rattle.disk_geometry.specs.declared.Geometry.{Geometry}
use Rattle.disk_geometry.specs.Geometry.{geometry_of}
use Rattle.examples.specs.Script.{log_in, delete, write, write_next, write_zero_fill, done, free, refused, Line, call, altered, held_are, volume_at, fcb_is, Script, script, seen, told}
use Rattle.examples.specs.Samples.{sigla, lemmata, entry, empty, control, fresh, record_of, filled, old}

-- B 1,024, T 8, D 1: seven blocks behind a directory of 32 slots
abbrev pub seven : Geometry
seven = geometry_of 1024 8 1

abbrev pub shelf : List ℕ → ℕ → List ℕ
shelf entries others = entries ++ empty others ++ old 1024 7168

-- SIGLA.TXT has block 3, LEMMATA.TXT block 4; 1, 2, 5, 6 and 7 are free
abbrev pub two_files : List ℕ
two_files = entry 0 sigla 0 0 8 (3 ∷ []) ++ entry 0 lemmata 0 0 8 (4 ∷ [])

abbrev pub on_two_files : List Line
on_two_files =
    call (log_in seven) (free 5)
    ∷ held_are (24 ∷ 0 ∷ 0 ∷ 0 ∷ [])
    -- a gap below: the nearest lower used place of place 3 is place 0; 4 is held, so it is 5, and not 1
    ∷ call (write (record_of sigla 24) (filled 7)) (done 0)
    ∷ volume_at 0 (entry 0 sigla 0 0 25 (3 ∷ 0 ∷ 0 ∷ 5 ∷ []) ++ entry 0 lemmata 0 0 8 (4 ∷ []) ++ empty 30)
    ∷ volume_at 1024 (old 1024 4096 ++ filled 7 ++ old 5248 2944)
    ∷ fcb_is (control sigla 0 0 25 (3 ∷ 0 ∷ 0 ∷ 5 ∷ []) 24 24)
    ∷ held_are (56 ∷ 0 ∷ 0 ∷ 0 ∷ [])
    -- places used out of order: place 1 is above block 3 of place 0, place 2 above block 6 of place 1; block 5 of place 3
    -- plays no part
    ∷ call (write (record_of sigla 8) (filled 8)) (done 0)
    ∷ volume_at 0 (entry 0 sigla 0 0 25 (3 ∷ 6 ∷ 0 ∷ 5 ∷ []))
    ∷ call (write (record_of sigla 16) (filled 9)) (done 0)
    ∷ volume_at 0 (entry 0 sigla 0 0 25 (3 ∷ 6 ∷ 7 ∷ 5 ∷ []))
    ∷ volume_at 6144 (filled 8 ++ old 6272 896 ++ filled 9)
    ∷ held_are (248 ∷ 0 ∷ 0 ∷ 0 ∷ [])
    -- all above are held, with room below: 6 and 7 are held, so place 4, above block 5, gets the lowest free block
    ∷ call (write (record_of sigla 32) (filled 10)) (done 0)
    ∷ volume_at 0 (entry 0 sigla 0 0 33 (3 ∷ 6 ∷ 7 ∷ 5 ∷ 1 ∷ []))
    ∷ volume_at 1024 (filled 10)
    -- a first place, of a new entry: the lowest free block, whatever the file's other entry has
    ∷ call (write (record_of sigla 128) (filled 11)) (done 0)
    ∷ volume_at 64 (entry 0 sigla 1 0 1 (2 ∷ []) ++ empty 29)
    ∷ volume_at 2048 (filled 11)
    ∷ held_are (254 ∷ 0 ∷ 0 ∷ 0 ∷ [])
    -- "a block is needed and none is free"
    ∷ call (write (record_of sigla 40) (filled 12)) (refused 2)
    ∷ call (write_zero_fill (record_of sigla 136) (filled 12)) (refused 2)
    -- "for all writes": function 40, and a sequential write; block 4 is free again, and above block 2
    ∷ call (delete (fresh lemmata)) (done 0)
    ∷ call (write_zero_fill (record_of sigla 136) (filled 14)) (done 0)
    ∷ volume_at 64 (entry 0 sigla 1 0 9 (2 ∷ 4 ∷ []) ++ empty 29)
    ∷ volume_at 4096 (filled 14 ++ replicate 896 0)
    ∷ call (write_next (control sigla 1 0 0 [] 16 0) (filled 13)) (refused 2)
    ∷ []

-- SIGLA.TXT has block 5 in place 2 alone
abbrev pub later_place : List ℕ
later_place = entry 0 sigla 0 0 17 (0 ∷ 0 ∷ 5 ∷ [])

abbrev pub on_later_place : List Line
on_later_place =
    call (log_in seven) (free 6)
    -- a first place, of an entry that has a block in a higher place
    ∷ call (write (record_of sigla 0) (filled 7)) (done 0)
    ∷ volume_at 0 (entry 0 sigla 0 0 17 (1 ∷ 0 ∷ 5 ∷ []))
    ∷ call (write_next (control sigla 0 0 0 [] 24 0) (filled 8)) (done 0)
    ∷ volume_at 0 (entry 0 sigla 0 0 25 (1 ∷ 0 ∷ 5 ∷ 6 ∷ []))
    ∷ volume_at 6144 (filled 8)
    ∷ call (write (record_of sigla 8) (filled 9)) (done 0)
    ∷ volume_at 0 (entry 0 sigla 0 0 25 (1 ∷ 2 ∷ 5 ∷ 6 ∷ []))
    ∷ held_are (102 ∷ 0 ∷ 0 ∷ 0 ∷ [])
    ∷ []

-- Altered volumes, and a state that holds nothing at first
abbrev pub on_altered : List Line
on_altered =
    call (log_in seven) (free 7)
    -- "above": not the block itself, though the state doesn't hold it
    ∷ altered (shelf (entry 0 sigla 0 0 1 (3 ∷ [])) 31)
    ∷ call (write (record_of sigla 8) (filled 7)) (done 0)
    ∷ volume_at 0 (entry 0 sigla 0 0 9 (3 ∷ 4 ∷ []))
    -- a number beyond T-1 has no free block above it
    ∷ altered (shelf (entry 0 sigla 0 0 1 (8 ∷ [])) 31)
    ∷ call (write (record_of sigla 8) (filled 8)) (done 0)
    ∷ volume_at 0 (entry 0 sigla 0 0 9 (8 ∷ 1 ∷ []))
    ∷ altered (shelf (entry 0 sigla 0 0 1 (3 ∷ 255 ∷ [])) 31)
    ∷ call (write (record_of sigla 16) (filled 9)) (done 0)
    ∷ volume_at 0 (entry 0 sigla 0 0 17 (3 ∷ 255 ∷ 2 ∷ []))
    ∷ held_are (22 ∷ 0 ∷ 0 ∷ 0 ∷ [])
    ∷ []

-- "below D": B 1,024, T 4, D 2; the free blocks from D on are all above
abbrev pub on_below_d : List Line
on_below_d =
    call (log_in (geometry_of 1024 4 2)) (free 2)
    ∷ altered (entry 0 sigla 0 0 8 (1 ∷ []) ++ empty 63 ++ old 2048 2048)
    ∷ call (write (record_of sigla 8) (filled 7)) (done 0)
    ∷ volume_at 0 (entry 0 sigla 0 0 9 (1 ∷ 2 ∷ []) ++ empty 63 ++ filled 7 ++ old 2176 1920)
    ∷ []

abbrev pub together : List Script
together =
    script (shelf two_files 30) on_two_files
    ∷ script (shelf later_place 31) on_later_place
    ∷ script (shelf [] 32) on_altered
    ∷ script (empty 64 ++ old 2048 2048) on_below_d
    ∷ []

together_holds : seen together ≡ told together
unfolding seen told old
together_holds = refl
