-- Several records a call, evaluated: 02's words above the calls that they speak of, all values worked out by hand.
use Rattle.std.specs.Prelude.{◌≡◌, refl, List, [], ◌∷◌, ◌++◌, replicate, set, ℕ}
use Rattle.disk_geometry.specs.Geometry.{geometry_of}
use Rattle.examples.specs.Script.{log_in, make, write_next, protect, read_several, write_several, done, free, refused, some_done, Line, call, volume_at, fcb_is, buffer_is, Script, script, seen, told}
use Rattle.examples.specs.Samples.{sigla, lemmata, entry, empty, control, fresh, filled, old}
use Rattle.examples.specs.Table.{geometry_v, volume_v}

-- three pieces, and the control block of SIGLA.TXT with three records in block 1 at the position cr
abbrev pub three : ℕ → ℕ → ℕ → List ℕ
three x y z = filled x ++ filled y ++ filled z

abbrev pub at : ℕ → List ℕ
at cr = control sigla 0 0 3 (1 ∷ []) cr 0

abbrev pub on_v : List Line
on_v =
    -- a closed state is refused before the number of records is looked at
    call (read_several 0 [] []) (refused 32)
    ∷ call (log_in geometry_v) (free 39)
    ∷ call (make (fresh sigla)) (done 0)
    -- "k records .., each record goes to its own piece of that buffer": three written, and read back
    ∷ call (write_several 3 (fresh sigla) (three 7 8 9)) (some_done 3 0)
    ∷ volume_at 0 (entry 0 sigla 0 0 3 (1 ∷ []) ++ empty 31)
    ∷ volume_at 1024 (three 7 8 9 ++ old 1408 640)
    ∷ fcb_is (at 3)
    ∷ buffer_is (three 7 8 9)
    ∷ call (read_several 3 (fresh sigla) (three 0 0 0)) (some_done 3 0)
    ∷ fcb_is (at 3)
    ∷ buffer_is (three 7 8 9)
    -- "stopping at the first refused one. It answers how many were done and the stopping number"; pieces from the stop on stay
    ∷ call (read_several 3 (at 1) (three 4 5 6)) (some_done 2 1)
    ∷ fcb_is (at 3)
    ∷ buffer_is (three 8 9 6)
    -- none done: nothing changes
    ∷ call (read_several 3 (at 3) (three 4 5 6)) (refused 1)
    ∷ fcb_is (at 3)
    ∷ buffer_is (three 4 5 6)
    -- "46 for k outside 1..16, before 35": after 34, before all else
    ∷ call (read_several 0 (set (fresh sigla) 0 2) []) (refused 46)
    ∷ call (write_several 0 (set (fresh sigla) 0 2) []) (refused 46)
    ∷ call (read_several 17 (fresh sigla) (replicate 2176 0)) (refused 46)
    ∷ call (write_several 17 (fresh sigla) (replicate 2176 0)) (refused 46)
    ∷ call (write_several 0 [] []) (refused 34)
    -- "35 then asks for 128k"
    ∷ call (read_several 2 (set (fresh sigla) 0 2) (filled 0)) (refused 35)
    ∷ call (write_several 1 (set (fresh sigla) 0 2) (three 0 0 0)) (refused 35)
    ∷ call (write_several 16 (fresh sigla) (three 0 0 0)) (refused 35)
    -- then what the single call tests
    ∷ call (read_several 3 (set (fresh sigla) 0 2) (three 0 0 0)) (refused 42)
    ∷ call (write_several 3 (set (at 3) 32 129) (three 0 0 0)) (refused 40)
    ∷ call (read_several 3 (fresh lemmata) (three 0 0 0)) (refused 3)
    -- at the last record of all: 65,535 is written, 65,536 is 6
    ∷ call (write_several 3 (control sigla 31 15 0 [] 127 0) (three 1 2 3)) (some_done 1 6)
    ∷ volume_at 32 (entry 0 sigla 31 15 128 (replicate 15 0 ++ (2 ∷ [])) ++ empty 30)
    ∷ volume_at 2944 (filled 1 ++ old 3072 128)
    ∷ fcb_is (control sigla 31 15 128 (replicate 15 0 ++ (2 ∷ [])) 128 0)
    ∷ call protect (done 0)
    ∷ call (write_several 3 (fresh sigla) (three 1 2 3)) (refused 37)
    ∷ call (read_several 3 (fresh sigla) (three 0 0 0)) (some_done 3 0)
    ∷ buffer_is (three 7 8 9)
    ∷ []

-- T 2, D 1: one block, so the ninth record has none. "Records done before a stop stay done"
abbrev pub on_one_block : List Line
on_one_block =
    call (log_in (geometry_of 1024 2 1)) (free 1)
    ∷ call (make (fresh sigla)) (done 0)
    ∷ call (write_several 3 (control sigla 0 0 0 [] 6 0) (three 7 8 9)) (some_done 2 2)
    ∷ volume_at 0 (entry 0 sigla 0 0 8 (1 ∷ []) ++ empty 31)
    ∷ volume_at 1024 (old 1024 768 ++ filled 7 ++ filled 8)
    ∷ fcb_is (control sigla 0 0 8 (1 ∷ []) 8 0)
    ∷ buffer_is (three 7 8 9)
    ∷ call (write_several 3 (control sigla 0 0 8 (1 ∷ []) 8 0) (three 7 8 9)) (refused 2)
    ∷ []

-- "It equals k single calls in order": over the border of an extent, by one call and by two
abbrev pub by_one : List Line
by_one =
    call (log_in (geometry_of 1024 4 1)) (free 3)
    ∷ call (make (fresh sigla)) (done 0)
    ∷ call (write_several 2 (control sigla 0 0 0 [] 127 0) (filled 7 ++ filled 8)) (some_done 2 0)
    ∷ fcb_is (control sigla 1 0 1 (2 ∷ []) 1 0)
    ∷ volume_at 0 (entry 0 sigla 0 0 128 (replicate 15 0 ++ (1 ∷ [])) ++ entry 0 sigla 1 0 1 (2 ∷ []) ++ empty 30)
    ∷ volume_at 1024 (old 1024 896 ++ filled 7 ++ filled 8 ++ old 2176 1920)
    ∷ []

abbrev pub by_two : List Line
by_two =
    call (log_in (geometry_of 1024 4 1)) (free 3)
    ∷ call (make (fresh sigla)) (done 0)
    ∷ call (write_next (control sigla 0 0 0 [] 127 0) (filled 7)) (done 0)
    ∷ call (write_next (control sigla 0 0 128 (replicate 15 0 ++ (1 ∷ [])) 128 0) (filled 8)) (done 0)
    ∷ fcb_is (control sigla 1 0 1 (2 ∷ []) 1 0)
    ∷ volume_at 0 (entry 0 sigla 0 0 128 (replicate 15 0 ++ (1 ∷ [])) ++ entry 0 sigla 1 0 1 (2 ∷ []) ++ empty 30)
    ∷ volume_at 1024 (old 1024 896 ++ filled 7 ++ filled 8 ++ old 2176 1920)
    ∷ []

abbrev pub several : List Script
several =
    script volume_v on_v
    ∷ script (empty 32 ++ old 1024 1024) on_one_block
    ∷ script (empty 32 ++ old 1024 3072) by_one
    ∷ script (empty 32 ++ old 1024 3072) by_two
    ∷ []

pub several_hold : seen several ≡ told several
unfolding seen told old
several_hold = refl
