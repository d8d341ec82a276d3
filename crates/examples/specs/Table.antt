-- The proved table: "Those marked * form the proved table, all evaluated there by a single statement".
-- The paper's words stand above the calls that they speak of; a call stands with what it answers, and below it the bytes
-- that it leaves: the directory, the block written and its neighbours, the control block, of a read the transfer buffer.
-- All values are worked out by hand from the paper. The statement is at the end.
use Rattle.std.specs.Prelude.{◌≡◌, refl, List, [], ◌∷◌, ◌++◌, ℕ, zero, suc, replicate}
use Rattle.disk_geometry.specs.declared.Geometry.{Geometry}
use Rattle.disk_geometry.specs.Geometry.{geometry_of}
use Rattle.examples.specs.Script.{log_in, make, rename, read, write, size, done, free, refused, Line, call, slots_are, volume_at, fcb_at, fcb_is, buffer_is, Script, script, seen, told}
use Rattle.examples.specs.Samples.{sigla, lemmata, entry, empty, control, fresh, record_of, renaming, filled, old}

-- "Volume V: B 1,024, T 40, D 1, directory all E5H."
abbrev pub geometry_v : Geometry
geometry_v = geometry_of 1024 40 1

abbrev pub volume_v : List ℕ
volume_v = empty 32 ++ old 1024 39936

-- the map with block 1 in place 0 and block 2 in place 2, and the one with block 4 in place 15
abbrev pub blocks1and2 : List ℕ
blocks1and2 = 1 ∷ 0 ∷ 2 ∷ []

abbrev pub block4in15 : List ℕ
block4in15 = replicate 15 0 ++ (4 ∷ [])

abbrev pub on_v : List Line
on_v =
    -- "Log-in of V: 39 free, 32 slots."
    call (log_in geometry_v) (free 39)
    ∷ slots_are 32
    -- "Make SIGLA.TXT: code 0."
    ∷ call (make (fresh sigla)) (done 0)
    ∷ volume_at 0 (entry 0 sigla 0 0 0 [] ++ empty 31)
    ∷ fcb_is (fresh sigla)
    -- "Again: 43."
    ∷ call (make (fresh sigla)) (refused 43)
    ∷ volume_at 0 (entry 0 sigla 0 0 0 [] ++ empty 31)
    -- "Rename to itself: 43."
    ∷ call (rename (renaming sigla sigla)) (refused 43)
    ∷ volume_at 0 (entry 0 sigla 0 0 0 [] ++ empty 31)
    -- "Write 0: block 1, rc 1, bytes at 1,024."
    ∷ call (write (record_of sigla 0) (filled 7)) (done 0)
    ∷ volume_at 0 (entry 0 sigla 0 0 1 (1 ∷ []) ++ empty 31)
    ∷ volume_at 1024 (filled 7 ++ old 1152 1920)
    ∷ fcb_is (control sigla 0 0 1 (1 ∷ []) 0 0)
    -- "Then write 20: place 2, block 2, bytes at 2,560, rc 21."
    ∷ call (write (record_of sigla 20) (filled 8)) (done 0)
    ∷ volume_at 0 (entry 0 sigla 0 0 21 blocks1and2 ++ empty 31)
    ∷ volume_at 1024 (filled 7 ++ old 1152 1408)
    ∷ volume_at 2560 (filled 8 ++ old 2688 1408)
    ∷ fcb_is (control sigla 0 0 21 blocks1and2 20 20)
    -- "Read 8: 1."
    ∷ call (read (record_of sigla 8) (filled 0)) (refused 1)
    ∷ fcb_is (record_of sigla 8)
    ∷ buffer_is (filled 0)
    -- "Read 21: 1."
    ∷ call (read (record_of sigla 21) (filled 0)) (refused 1)
    ∷ fcb_is (record_of sigla 21)
    ∷ buffer_is (filled 0)
    -- "Read 16: present, old bytes of block 2."
    ∷ call (read (record_of sigla 16) (filled 0)) (done 0)
    ∷ fcb_is (control sigla 0 0 21 blocks1and2 16 16)
    ∷ buffer_is (old 2048 128)
    -- "Read 128: 4."
    ∷ call (read (record_of sigla 128) (filled 0)) (refused 4)
    ∷ fcb_is (record_of sigla 128)
    ∷ buffer_is (filled 0)
    -- "Write 128: slot 1, ex 1, rc 1, block 3."
    ∷ call (write (record_of sigla 128) (filled 9)) (done 0)
    ∷ volume_at 0 (entry 0 sigla 0 0 21 blocks1and2)
    ∷ volume_at 32 (entry 0 sigla 1 0 1 (3 ∷ []) ++ empty 30)
    ∷ volume_at 3072 (filled 9 ++ old 3200 1920)
    ∷ fcb_is (control sigla 1 0 1 (3 ∷ []) 0 128)
    -- "Size 129."
    ∷ call (size (fresh sigla)) (done 0)
    ∷ fcb_is (record_of sigla 129)
    ∷ fcb_at 33 (129 ∷ 0 ∷ 0 ∷ [])
    -- "Write 65,535 in a new file: ex 31, s2 15, rc 128, place 15; size bytes 0, 0, 1."
    ∷ call (make (fresh lemmata)) (done 2)
    ∷ volume_at 64 (entry 0 lemmata 0 0 0 [] ++ empty 29)
    ∷ call (write (record_of lemmata 65535) (filled 10)) (done 0)
    ∷ volume_at 64 (entry 0 lemmata 0 0 0 [])
    ∷ volume_at 96 (entry 0 lemmata 31 15 128 block4in15 ++ empty 28)
    ∷ volume_at 4096 (old 4096 896 ++ filled 10 ++ old 5120 1024)
    ∷ fcb_is (control lemmata 31 15 128 block4in15 127 65535)
    ∷ call (size (fresh lemmata)) (done 0)
    ∷ fcb_is (record_of lemmata 65536)
    ∷ fcb_at 33 (0 ∷ 0 ∷ 1 ∷ [])
    ∷ []

-- "B 2,048": here with T 3, D 1, and an empty directory
abbrev pub geometry2048 : Geometry
geometry2048 = geometry_of 2048 3 1

abbrev pub volume2048 : List ℕ
volume2048 = empty 64 ++ old 2048 4096

abbrev pub block1in12 : List ℕ
block1in12 = replicate 12 0 ++ (1 ∷ [])

abbrev pub on2048 : List Line
on2048 =
    -- "B 2,048, new file, write 200: ex 1, rc 73, place 12."
    call (log_in geometry2048) (free 2)
    ∷ slots_are 64
    ∷ call (make (fresh lemmata)) (done 0)
    ∷ volume_at 0 (entry 0 lemmata 0 0 0 [] ++ empty 63)
    ∷ call (write (record_of lemmata 200) (filled 7)) (done 0)
    ∷ volume_at 0 (entry 0 lemmata 1 0 73 block1in12 ++ empty 63)
    ∷ volume_at 2048 (old 2048 1024 ++ filled 7 ++ old 3200 2944)
    ∷ fcb_is (control lemmata 1 0 73 block1in12 72 200)
    -- "Read 5: 1."
    ∷ call (read (record_of lemmata 5) (filled 0)) (refused 1)
    ∷ fcb_is (record_of lemmata 5)
    ∷ buffer_is (filled 0)
    ∷ []

-- "No empty slot and no free block": here T 2, D 1; the slots are extents 0 to 31 of one file, the first has block 1
abbrev pub geometry_full : Geometry
geometry_full = geometry_of 1024 2 1

unfoldable pub extents_from : ℕ → ℕ → List ℕ
extents_from ex zero = []
extents_from ex (suc n) = entry 0 sigla ex 0 128 [] ++ extents_from (suc ex) n

abbrev pub volume_full : List ℕ
volume_full = entry 0 sigla 0 0 128 (1 ∷ []) ++ extents_from 1 31 ++ old 1024 1024

abbrev pub on_full : List Line
on_full =
    -- "No empty slot and no free block, new group: 5." Record 4,096 is the first of extent 32.
    call (log_in geometry_full) (free 0)
    ∷ slots_are 32
    ∷ call (write (record_of sigla 4096) (filled 7)) (refused 5)
    ∷ volume_at 0 volume_full
    ∷ fcb_is (record_of sigla 4096)
    ∷ []

abbrev pub table : List Script
table = script volume_v on_v ∷ script volume2048 on2048 ∷ script volume_full on_full ∷ []

-- every starred example: what the calls show by their definitions is what the table says
table_holds : seen table ≡ told table
unfolding seen told old extents_from
table_holds = refl
