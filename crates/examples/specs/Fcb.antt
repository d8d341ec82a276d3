-- "Bytes not named stay as they were", of the control block: every call is lent one with dr 1, a name with every top bit,
-- s1 9, and rc, map, cr and r0 r1 r2 that mean nothing to it; all of its 36 bytes are looked at afterwards. The map in it
-- names another file's block: "shown to the program and never believed". Values are worked out by hand.
use Rattle.std.specs.Prelude.{◌≡◌, refl, List, [], ◌∷◌, ◌++◌, ℕ, replicate, set}
use Rattle.disk_volume.specs.Fields.{S1}
use Rattle.call_fcb.specs.Fcb.{DR}
use Rattle.examples.specs.Script.{log_in, open_file, close_file, search_first, delete, read_next, write_next, make, rename, attributes, read, write, size, set_random, write_zero_fill, read_several, write_several, done, free, refused, some_done, Line, call, volume_at, fcb_is, buffer_is, Script, script, seen, told}
use Rattle.examples.specs.Samples.{sigla, lemmata, from, topped, small, disk, entry, empty, control, fresh, record_of, filled, old}

-- a control block with dr 1 and s1 9
abbrev pub marked : List ℕ → ℕ → ℕ → ℕ → List ℕ → ℕ → ℕ → List ℕ
marked name ex s2 rc blocks cr n = set (set (control name ex s2 rc blocks cr n) DR 1) S1 9

-- SIGLA.TXT with every top bit, the map of LEMMATA.TXT, and 03H 02H 01H in r2 r1 r0
abbrev pub sigla_topped : List ℕ
sigla_topped = topped 83

abbrev pub others : List ℕ
others = 2 ∷ 3 ∷ []

abbrev pub far : ℕ
far = 197121

-- SIGLA.TXT with both attributes
abbrev pub sigla_attributes : List ℕ
sigla_attributes = 83 ∷ 73 ∷ 71 ∷ 76 ∷ 65 ∷ 32 ∷ 32 ∷ 32 ∷ 0xD4 ∷ 0xD8 ∷ 84 ∷ []

-- LEMMATA.TXT has block 2
abbrev pub lemmata_entry : List ℕ
lemmata_entry = entry 0 lemmata 0 0 8 (2 ∷ [])

-- the directory with a first entry of so many records, and with two entries of a file around LEMMATA.TXT
abbrev pub first_of : ℕ → List ℕ
first_of rc = entry 0 sigla 0 0 rc (1 ∷ []) ++ lemmata_entry ++ empty 30

abbrev pub around : List ℕ → List ℕ
around name = entry 0 name 0 0 6 (1 ∷ []) ++ lemmata_entry ++ entry 0 name 1 0 1 (3 ∷ [])

-- the control block of a rename, with FFH wherever no name stands
abbrev pub renaming_topped : List ℕ
renaming_topped = (1 ∷ sigla_topped) ++ (replicate 5 255 ++ (topped 85 ++ replicate 8 255))

abbrev pub on_fcb : List Line
on_fcb =
    call (log_in small) (free 1)
    -- reads: "set to n; cr is n mod 128 for random, plus 1 for sequential"; a sequential call looks at no r, a random one
    -- at no ex, s2 and cr
    ∷ call (read (marked sigla_topped 255 255 77 others 255 1) (filled 0)) (done 0)
    ∷ fcb_is (marked sigla_topped 0 0 2 (1 ∷ []) 1 1)
    ∷ buffer_is (old 1152 128)
    ∷ call (read_next (marked sigla_topped 0 0 77 others 0 far) (filled 0)) (done 0)
    ∷ fcb_is (marked sigla_topped 0 0 2 (1 ∷ []) 1 far)
    ∷ buffer_is (old 1024 128)
    ∷ call (read_several 2 (marked sigla_topped 0 0 77 others 0 far) (filled 0 ++ filled 0)) (some_done 2 0)
    ∷ fcb_is (marked sigla_topped 0 0 2 (1 ∷ []) 2 far)
    ∷ buffer_is (old 1024 256)
    ∷ volume_at 0 (disk (first_of 2))
    -- writes: "Control block as for reads"; the buffer and the other file's block 2 keep their bytes, the entry its name
    ∷ call (write (marked sigla_topped 255 255 77 others 255 2) (filled 7)) (done 0)
    ∷ fcb_is (marked sigla_topped 0 0 3 (1 ∷ []) 2 2)
    ∷ buffer_is (filled 7)
    ∷ volume_at 0 (first_of 3)
    ∷ volume_at 1024 (old 1024 256 ++ filled 7 ++ old 1408 2688)
    ∷ call (write_next (marked sigla_topped 0 0 77 others 3 far) (filled 8)) (done 0)
    ∷ fcb_is (marked sigla_topped 0 0 4 (1 ∷ []) 4 far)
    ∷ buffer_is (filled 8)
    ∷ volume_at 0 (first_of 4)
    ∷ volume_at 1280 (filled 7 ++ filled 8 ++ old 1536 2560)
    ∷ call (write_several 1 (marked sigla_topped 0 0 77 others 4 far) (filled 9)) (some_done 1 0)
    ∷ fcb_is (marked sigla_topped 0 0 5 (1 ∷ []) 5 far)
    ∷ call (write_zero_fill (marked sigla_topped 255 255 77 others 255 5) (filled 10)) (done 0)
    ∷ fcb_is (marked sigla_topped 0 0 6 (1 ∷ []) 5 5)
    ∷ buffer_is (filled 10)
    ∷ volume_at 1536 (filled 9 ++ filled 10 ++ old 1792 2304)
    -- a missing group: user and name of the entry are those of the file, not dr and name of the control block
    ∷ call (write_zero_fill (marked sigla_topped 255 255 77 others 255 128) (filled 11)) (done 0)
    ∷ fcb_is (marked sigla_topped 1 0 1 (3 ∷ []) 0 128)
    ∷ volume_at 0 (around sigla ++ empty 29)
    ∷ volume_at 3072 (filled 11 ++ replicate 896 0)
    -- size and 36: "in r0 r1 r2, low byte first", and no other byte; position 128 times 37, plus 100
    ∷ call (size (marked sigla_topped 255 255 77 others 255 far)) (done 0)
    ∷ fcb_is (marked sigla_topped 255 255 77 others 255 129)
    ∷ call (set_random (marked sigla_topped 5 1 77 others 100 far)) (done 0)
    ∷ fcb_is (marked sigla_topped 5 1 77 others 100 4836)
    -- open: "Bytes 1..11 and 16..31 come from the entry, s1 and s2 become 0, rc the count of ex"
    ∷ call (open_file (marked sigla_topped 1 255 77 others 255 far)) (done 2)
    ∷ fcb_is (set (control sigla 1 0 1 (3 ∷ []) 255 far) DR 1)
    -- close: "Changes nothing", neither here nor in the entry
    ∷ call (close_file (marked sigla_topped 1 0 77 others 255 far)) (done 2)
    ∷ fcb_is (marked sigla_topped 1 0 77 others 255 far)
    ∷ volume_at 0 (around sigla ++ empty 29)
    -- search
    ∷ call (search_first (marked sigla_topped 0x3F 255 77 others 255 far) (filled 0)) (done 0)
    ∷ fcb_is (marked sigla_topped 0x3F 255 77 others 255 far)
    -- attributes: the top bits of bytes 9 and 10 alone, and the control block stays
    ∷ call (attributes (marked sigla_topped 255 255 77 others 255 far)) (done 0)
    ∷ fcb_is (marked sigla_topped 255 255 77 others 255 far)
    ∷ volume_at 0 (around sigla_attributes ++ empty 29)
    -- open shows them; "Copying t1 from the control block at close: a read-only file becomes writable"
    ∷ call (open_file (fresh sigla)) (done 0)
    ∷ fcb_is (control sigla_attributes 0 0 6 (1 ∷ []) 0 0)
    ∷ call (close_file (fresh sigla)) (done 0)
    ∷ volume_at 0 (around sigla_attributes ++ empty 29)
    ∷ call (write (record_of sigla 0) (filled 7)) (refused 38)
    ∷ call (read (record_of sigla 128) (filled 0)) (done 0)
    ∷ fcb_is (control sigla 1 0 1 (3 ∷ []) 0 128)
    ∷ buffer_is (filled 11)
    ∷ call (attributes (fresh sigla)) (done 0)
    -- rename: the control block stays
    ∷ call (rename renaming_topped) (done 0)
    ∷ fcb_is renaming_topped
    ∷ volume_at 0 (around (from 85) ++ empty 29)
    -- make: "Control block 1..11 likewise, 12..31 become 0"; the entry's user is the current one, not dr
    ∷ call (make (marked sigla_topped 0 255 77 others 255 far)) (done 3)
    ∷ fcb_is (set (control sigla 0 0 0 [] 255 far) DR 1)
    ∷ volume_at 96 (entry 0 sigla 0 0 0 [] ++ empty 28)
    -- delete: the control block stays
    ∷ call (delete (marked sigla_topped 255 255 77 others 255 far)) (done 0)
    ∷ fcb_is (marked sigla_topped 255 255 77 others 255 far)
    ∷ volume_at 0 (around (from 85) ++ entry 0xE5 sigla 0 0 0 [] ++ empty 28)
    ∷ []

abbrev pub fcbs : List Script
fcbs = script (disk (first_of 2)) on_fcb ∷ []

fcbs_hold : seen fcbs ≡ told fcbs
unfolding seen told old
fcbs_hold = refl
