-- Scripts for function 40: "For Digital Research it is the random write, but a block given for the first time is first
-- filled with zeros." All values are worked out by hand.
use Rattle.std.specs.Prelude.{◌≡◌, refl, List, [], ◌∷◌, ◌++◌, ℕ, replicate}
use Rattle.examples.specs.Script.{log_in, delete, make, read, write, write_zero_fill, done, free, refused, Line, call, held_are, volume_at, fcb_is, buffer_is, Script, script, seen, told}
use Rattle.examples.specs.Samples.{sigla, lemmata, entry, empty, control, fresh, record_of, filled, old}
use Rattle.examples.specs.Table.{geometry_v, volume_v, geometry2048, volume2048, block1in12, geometry_full, volume_full, extents_from}

-- so many zeros
abbrev pub zeros : ℕ → List ℕ
zeros n = replicate n 0

-- on V, where a deleted file has left its bytes in block 1
abbrev pub on_used : List Line
on_used =
    call (log_in geometry_v) (free 39)
    ∷ call (make (fresh sigla)) (done 0)
    ∷ call (write (record_of sigla 9) (filled 7)) (done 0)
    ∷ volume_at 1024 (old 1024 128 ++ filled 7 ++ old 1280 768)
    ∷ call (delete (fresh sigla)) (done 0)
    ∷ call (make (fresh lemmata)) (done 0)
    -- a block that is given: record 5 has the program's bytes, the block's other records have zeros
    ∷ call (write_zero_fill (record_of lemmata 5) (filled 8)) (done 0)
    ∷ volume_at 0 (entry 0 lemmata 0 0 6 (1 ∷ []) ++ empty 31)
    ∷ volume_at 1024 (zeros 640 ++ filled 8 ++ zeros 256 ++ old 2048 1024)
    ∷ held_are (2 ∷ 0 ∷ 0 ∷ 0 ∷ [])
    ∷ fcb_is (control lemmata 0 0 6 (1 ∷ []) 5 5)
    ∷ buffer_is (filled 8)
    -- "where they count as present": record 4 does, record 6 does not
    ∷ call (read (record_of lemmata 4) (filled 1)) (done 0)
    ∷ buffer_is (filled 0)
    ∷ call (read (record_of lemmata 6) (filled 1)) (refused 1)
    -- a block that was given before: its other records stay
    ∷ call (write_zero_fill (record_of lemmata 2) (filled 9)) (done 0)
    ∷ volume_at 1024 (zeros 256 ++ filled 9 ++ zeros 256 ++ filled 8 ++ zeros 256 ++ old 2048 1024)
    ∷ held_are (2 ∷ 0 ∷ 0 ∷ 0 ∷ [])
    -- function 34 fills no block
    ∷ call (write (record_of lemmata 8) (filled 3)) (done 0)
    ∷ volume_at 2048 (filled 3 ++ old 2176 896)
    -- "35 now applies to 40, at its usual place": behind 34, before 42
    ∷ call (write_zero_fill (replicate 35 2) (zeros 127)) (refused 34)
    ∷ call (write_zero_fill (replicate 36 2) (zeros 127)) (refused 35)
    ∷ call (write_zero_fill (replicate 36 2) (zeros 129)) (refused 35)
    ∷ call (write_zero_fill (replicate 36 2) (zeros 128)) (refused 42)
    ∷ []

-- B 2,048: a block has sixteen records; record 200 is the ninth of its block
abbrev pub on_sixteen : List Line
on_sixteen =
    call (log_in geometry2048) (free 2)
    ∷ call (make (fresh lemmata)) (done 0)
    ∷ call (write_zero_fill (record_of lemmata 200) (filled 7)) (done 0)
    ∷ volume_at 0 (entry 0 lemmata 1 0 73 block1in12 ++ empty 63)
    ∷ volume_at 2048 (zeros 1024 ++ filled 7 ++ zeros 896 ++ old 4096 2048)
    ∷ fcb_is (control lemmata 1 0 73 block1in12 72 200)
    ∷ []

-- a refusal fills nothing
abbrev pub on_full_disk : List Line
on_full_disk =
    call (log_in geometry_full) (free 0)
    ∷ call (write_zero_fill (record_of sigla 4096) (filled 7)) (refused 5)
    ∷ call (write_zero_fill (record_of sigla 8) (filled 7)) (refused 2)
    ∷ volume_at 0 volume_full
    ∷ []

abbrev pub zero_fills : List Script
zero_fills = script volume_v on_used ∷ script volume2048 on_sixteen ∷ script volume_full on_full_disk ∷ []

zero_fills_hold : seen zero_fills ≡ told zero_fills
unfolding seen told old extents_from
zero_fills_hold = refl
