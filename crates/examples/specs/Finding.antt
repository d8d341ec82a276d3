-- Open and search: "slots matched as in open". Which slots a pattern hits, where entries have s2, where the directory
-- changes between two hits, and to the last slot. Values are worked out by hand.
use Rattle.std.specs.Prelude.{◌≡◌, refl, List, [], ◌∷◌, ◌++◌, ℕ, set}
use Rattle.call_fcb.specs.Fcb.{DR}
use Rattle.examples.specs.Script.{log_in, open_file, close_file, search_first, search_next, make, rename, protect, write, done, free, refused, Line, call, fcb_is, buffer_is, Script, script, seen, told}
use Rattle.examples.specs.Samples.{sigla, lemmata, from, any_name, small, disk, entry, empty, control, fresh, record_of, extent_of, renaming, filled, old}

-- SIGLA.TXT has extents 511 and 32 alone, in this order; LEMMATA.TXT has extents 1 and 0; slot 31 is used
abbrev pub record0 : List ℕ
record0 = entry 0 sigla 31 15 1 [] ++ entry 0 sigla 0 1 2 [] ++ entry 0 lemmata 1 0 3 [] ++ entry 0 lemmata 0 0 128 []

abbrev pub record7 : List ℕ
record7 = empty 3 ++ entry 0 (from 90) 0 0 4 []

abbrev pub on_finding : List Line
on_finding =
    call (log_in small) (free 3)
    -- "in the group of ex, with s2 taken as 0": of the control block; an entry's group is that of its full E
    ∷ call (open_file (control sigla 0 1 0 [] 0 0)) (refused 255)
    ∷ call (open_file (control sigla 31 15 0 [] 0 0)) (refused 255)
    ∷ call (open_file (control lemmata 1 7 0 [] 0 0)) (done 2)
    ∷ fcb_is (control lemmata 1 0 3 [] 0 0)
    ∷ call (search_first (control sigla 0 1 0 [] 0 0) (filled 0)) (refused 255)
    ∷ call (search_first (control sigla 31 15 0 [] 0 0) (filled 0)) (refused 255)
    ∷ call (search_first (control lemmata 1 7 0 [] 255 0) (filled 0)) (done 2)
    ∷ buffer_is record0
    -- close takes s2
    ∷ call (close_file (control sigla 0 1 0 [] 0 0)) (done 1)
    ∷ call (close_file (control lemmata 1 7 0 [] 0 0)) (refused 255)
    -- "lowest slot": of the group, not of the file; 3FH in the type, and in all
    ∷ call (open_file (extent_of (set lemmata 10 0x3F) 0)) (done 3)
    ∷ fcb_is (control lemmata 0 0 128 [] 0 0)
    ∷ call (open_file (extent_of any_name 0)) (done 3)
    ∷ call (open_file (extent_of (set sigla 10 0x3F) 0)) (refused 255)
    -- "ex 3FH matching any group", in slot order
    ∷ call (search_first (extent_of any_name 0x3F) (filled 0)) (done 0)
    ∷ call (search_next (filled 0)) (done 1)
    ∷ call (search_next (filled 0)) (done 2)
    ∷ call (search_next (filled 0)) (done 3)
    ∷ call (search_next (filled 0)) (done 3)
    ∷ buffer_is record7
    ∷ call (search_next (filled 0)) (refused 255)
    -- "search: 63 allowed", and nowhere else
    ∷ call (open_file (extent_of any_name 0x3F)) (refused 40)
    -- "whichever other calls came between": the directory is looked at as it is at the time of the call
    ∷ call (search_first (extent_of any_name 0) (filled 0)) (done 3)
    ∷ buffer_is record0
    ∷ call (make (fresh (from 85))) (done 0)
    ∷ call (search_next (filled 0)) (done 0)
    ∷ buffer_is (entry 0 (from 85) 0 0 0 [] ++ empty 3)
    ∷ call (write (record_of (from 85) 0) (filled 7)) (done 0)
    ∷ call (rename (renaming (from 90) (from 88))) (done 0)
    ∷ call protect (done 0)
    ∷ call (search_next (filled 0)) (done 3)
    ∷ buffer_is (empty 3 ++ entry 0 (from 88) 0 0 4 [])
    ∷ call (search_next (filled 0)) (refused 255)
    ∷ []

-- "With dr 3FH every slot matches": the 32 slots in order, and no more; a pattern that hits nothing else is not examined
abbrev pub four_hits : List Line
four_hits =
    call (search_next (filled 0)) (done 0)
    ∷ call (search_next (filled 0)) (done 1)
    ∷ call (search_next (filled 0)) (done 2)
    ∷ call (search_next (filled 0)) (done 3)
    ∷ []

abbrev pub on_every_slot : List Line
on_every_slot =
    (call (log_in small) (free 3)
    ∷ call (search_first (set (extent_of (from 85) 63) DR 0x3F) (filled 0)) (done 0)
    ∷ buffer_is record0
    ∷ call (search_next (filled 0)) (done 1)
    ∷ call (search_next (filled 0)) (done 2)
    ∷ call (search_next (filled 0)) (done 3)
    ∷ [])
    ++ four_hits ++ four_hits ++ four_hits ++ four_hits ++ four_hits ++ four_hits ++ four_hits
    ++ (buffer_is record7
    ∷ call (search_next (filled 0)) (refused 255)
    ∷ buffer_is (filled 0)
    ∷ call (search_next (filled 0)) (refused 255)
    ∷ [])

abbrev pub findings : List Script
findings =
    script (disk (record0 ++ empty 24 ++ record7)) on_finding
    ∷ script (disk (record0 ++ empty 24 ++ record7)) on_every_slot
    ∷ []

findings_hold : seen findings ≡ told findings
unfolding seen told old
findings_hold = refl
