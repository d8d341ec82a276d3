-- Names the typist can't type: the rule evaluated byte by byte and on blanks, what make and rename answer and in which order,
-- and on V an old file called a=b, which is opened, read, written, renamed away and deleted. Values are worked out by hand.
use Rattle.std.specs.Prelude.{◌≡◌, refl, Bool, true, false, cond, List, [], ◌∷◌, ◌++◌, ℕ, zero, suc, replicate, take, set}
use Rattle.lists.specs.Bytes.{part, all}
use Rattle.call_typing.specs.Typing.{typeable_byte, blank_before, typeable}
use Rattle.examples.specs.Script.{log_in, open_file, close_file, search_first, delete, make, rename, protect, attributes, user, read, write, size, done, free, refused, Line, call, held_are, volume_at, fcb_at, fcb_is, buffer_is, Script, script, seen, told}
use Rattle.examples.specs.Samples.{sigla, lemmata, from, small, disk, entry, empty, control, fresh, record_of, renaming, filled, old}
use Rattle.examples.specs.Table.{geometry_v}

-- ---- the rule
-- of n bytes from x on, those that SIGLA.TXT can't have at a place
unfoldable pub refused_from : ℕ → ℕ → ℕ → List ℕ
refused_from place x zero = []
refused_from place x (suc n) = let rest = refused_from place (suc x) n in cond (typeable (set sigla place x)) rest (x ∷ rest)

-- "small letters and the characters < > . , ; : = * [ ]", by their numbers: * , . : ; < = > [ ] and a to z
abbrev pub never_typed : List ℕ
never_typed =
    0x2A ∷ 0x2C ∷ 0x2E ∷ 0x3A ∷ 0x3B ∷ 0x3C ∷ 0x3D ∷ 0x3E ∷ 0x5B ∷ 0x5D
    ∷ 0x61 ∷ 0x62 ∷ 0x63 ∷ 0x64 ∷ 0x65 ∷ 0x66 ∷ 0x67 ∷ 0x68 ∷ 0x69 ∷ 0x6A ∷ 0x6B ∷ 0x6C ∷ 0x6D
    ∷ 0x6E ∷ 0x6F ∷ 0x70 ∷ 0x71 ∷ 0x72 ∷ 0x73 ∷ 0x74 ∷ 0x75 ∷ 0x76 ∷ 0x77 ∷ 0x78 ∷ 0x79 ∷ 0x7A ∷ []

-- they and no others, in the name's last letter and in the type's: a blank may stand there
bytes_hold : refused_from 4 0 128 ∷ refused_from 10 0 128 ∷ [] ≡ never_typed ∷ never_typed ∷ []
unfolding refused_from typeable typeable_byte blank_before all part
bytes_hold = refl

-- a name and a type, each with blanks behind it
abbrev pub called : List ℕ → List ℕ → List ℕ
called name type = take 8 (name ++ replicate 8 0x20) ++ take 3 (type ++ replicate 3 0x20)

abbrev pub blanks : List Bool
blanks =
    -- `A B`, `AB   C` and `A      B`, as name
    typeable (called (65 ∷ 32 ∷ 66 ∷ []) (84 ∷ 88 ∷ 84 ∷ []))
    ∷ typeable (called (65 ∷ 66 ∷ 32 ∷ 32 ∷ 32 ∷ 67 ∷ []) [])
    ∷ typeable (called (65 ∷ 32 ∷ 32 ∷ 32 ∷ 32 ∷ 32 ∷ 32 ∷ 66 ∷ []) [])
    -- `A B` as type, and a type that begins with a blank and goes on
    ∷ typeable (called (65 ∷ []) (65 ∷ 32 ∷ 66 ∷ []))
    ∷ typeable (called (65 ∷ []) (32 ∷ 66 ∷ []))
    ∷ typeable (called (65 ∷ []) (32 ∷ 32 ∷ 66 ∷ []))
    -- blanks at the end of the name, of the type, and of both; an empty type; none at all
    ∷ typeable sigla
    ∷ typeable (called (65 ∷ 66 ∷ 67 ∷ 68 ∷ 69 ∷ 70 ∷ 71 ∷ 72 ∷ []) (65 ∷ []))
    ∷ typeable (called (65 ∷ []) (65 ∷ 66 ∷ []))
    ∷ typeable (called (65 ∷ []) [])
    ∷ typeable (called (65 ∷ 66 ∷ 67 ∷ 68 ∷ 69 ∷ 70 ∷ 71 ∷ 72 ∷ []) (65 ∷ 66 ∷ 67 ∷ []))
    ∷ []

blanks_hold : blanks ≡ false ∷ false ∷ false ∷ false ∷ false ∷ false ∷ true ∷ true ∷ true ∷ true ∷ true ∷ []
unfolding typeable typeable_byte blank_before all part
blanks_hold = refl

-- ---- make and rename
abbrev pub a_equals_b : List ℕ
a_equals_b = called (0x61 ∷ 0x3D ∷ 0x62 ∷ []) []

-- the same, with a 3FH in it
abbrev pub a_equals_any : List ℕ
a_equals_any = called (0x61 ∷ 0x3D ∷ 0x3F ∷ []) []

-- `A B`, and ` BC` as type
abbrev pub a_blank_b : List ℕ
a_blank_b = called (65 ∷ 32 ∷ 66 ∷ []) []

abbrev pub type_later : List ℕ
type_later = called (65 ∷ []) (32 ∷ 66 ∷ 67 ∷ [])

abbrev pub on_typing : List Line
on_typing =
    call (log_in small) (free 3)
    ∷ call (make (fresh sigla)) (done 0)
    -- "Make, and rename for its new name, refuse"
    ∷ call (make (fresh a_equals_b)) (refused 45)
    ∷ call (make (fresh a_blank_b)) (refused 45)
    ∷ call (make (fresh type_later)) (refused 45)
    ∷ call (rename (renaming sigla a_equals_b)) (refused 45)
    ∷ call (rename (renaming sigla a_blank_b)) (refused 45)
    ∷ call (rename (renaming sigla type_later)) (refused 45)
    -- a refusal changes nothing
    ∷ volume_at 0 (entry 0 sigla 0 0 0 [] ++ empty 31)
    ∷ fcb_is (renaming sigla type_later)
    -- top bits are ignored: E1H is 61H, BDH is 3DH, A0H is 20H
    ∷ call (make (fresh (from 0xE1))) (refused 45)
    ∷ call (make (fresh (from 0xBD))) (refused 45)
    ∷ call (make (set (fresh sigla) 2 0xA0)) (refused 45)
    ∷ call (rename (renaming sigla (from 0xFA))) (refused 45)
    -- "straight after 39", of either name; behind 42; before 40, 37, 255 and 43
    ∷ call (make (fresh a_equals_any)) (refused 39)
    ∷ call (rename (renaming sigla a_equals_any)) (refused 39)
    ∷ call (rename (renaming (from 0x3F) a_equals_b)) (refused 39)
    ∷ call (make (set (fresh a_equals_b) 0 2)) (refused 42)
    ∷ call (make (set (fresh a_equals_b) 12 1)) (refused 45)
    ∷ call (make (set (fresh lemmata) 12 1)) (refused 40)
    ∷ call (rename (renaming lemmata a_equals_b)) (refused 45)
    ∷ call (rename (renaming lemmata (from 85))) (refused 255)
    -- small letters are 61H to 7AH: 60H and 7BH to 7EH stay permitted, and so does an empty type
    ∷ call (make (fresh (from 0x60))) (done 1)
    ∷ call (make (fresh (from 0x7B))) (done 2)
    ∷ call (make (fresh (from 0x7E))) (done 3)
    ∷ call (rename (renaming (from 0x60) (from 0x7C))) (done 0)
    ∷ call (rename (renaming (from 0x7E) (called (65 ∷ []) []))) (done 0)
    ∷ volume_at 32 (entry 0 (from 0x7C) 0 0 0 [] ++ entry 0 (from 0x7B) 0 0 0 [] ++ entry 0 (called (65 ∷ []) []) 0 0 0 [] ++ empty 28)
    ∷ call protect (done 0)
    ∷ call (make (fresh a_equals_b)) (refused 45)
    ∷ call (rename (renaming sigla a_equals_b)) (refused 45)
    ∷ call (make (fresh lemmata)) (refused 37)
    ∷ []

-- ---- an old file called a=b
-- V, with a=b of user 0 in slot 0 and block 1, a=b of user 1 in slot 1 and block 2
abbrev pub volume_old : List ℕ
volume_old = entry 0 a_equals_b 0 0 1 (1 ∷ []) ++ entry 1 a_equals_b 0 0 8 (2 ∷ []) ++ empty 30 ++ old 1024 39936

abbrev pub on_old : List Line
on_old =
    -- "Inspection stays"
    call (log_in geometry_v) (free 37)
    ∷ held_are (6 ∷ 0 ∷ 0 ∷ 0 ∷ [])
    -- "so such old files can still be read": opened, found, measured, closed, read
    ∷ call (open_file (fresh a_equals_b)) (done 0)
    ∷ fcb_is (control a_equals_b 0 0 1 (1 ∷ []) 0 0)
    ∷ call (search_first (fresh a_equals_b) (filled 0)) (done 0)
    ∷ call (size (fresh a_equals_b)) (done 0)
    ∷ fcb_at 33 (1 ∷ 0 ∷ 0 ∷ [])
    ∷ call (close_file (fresh a_equals_b)) (done 0)
    ∷ call (read (record_of a_equals_b 0) (filled 0)) (done 0)
    ∷ buffer_is (old 1024 128)
    -- written
    ∷ call (write (record_of a_equals_b 1) (filled 7)) (done 0)
    ∷ volume_at 0 (entry 0 a_equals_b 0 0 2 (1 ∷ []) ++ entry 1 a_equals_b 0 0 8 (2 ∷ []) ++ empty 30 ++ old 1024 128 ++ filled 7 ++ old 1280 768)
    -- it can't be made, though it exists, and nothing takes its name, itself not either
    ∷ call (make (fresh a_equals_b)) (refused 45)
    ∷ call (rename (renaming a_equals_b a_equals_b)) (refused 45)
    -- "renamed away": the old name is not asked for 45; and there is no way back
    ∷ call (rename (renaming a_equals_b sigla)) (done 0)
    ∷ volume_at 0 (entry 0 sigla 0 0 2 (1 ∷ []) ++ entry 1 a_equals_b 0 0 8 (2 ∷ []) ++ empty 30)
    ∷ call (rename (renaming sigla a_equals_b)) (refused 45)
    ∷ volume_at 0 (entry 0 sigla 0 0 2 (1 ∷ []) ++ entry 1 a_equals_b 0 0 8 (2 ∷ []) ++ empty 30)
    -- "and deleted", the other user's: its attributes set and taken off before, its block free behind
    ∷ call (user 1) (done 0)
    ∷ call (attributes (set (fresh a_equals_b) 9 0xA0)) (done 0)
    ∷ call (delete (fresh a_equals_b)) (refused 38)
    ∷ call (attributes (fresh a_equals_b)) (done 0)
    ∷ call (delete (fresh a_equals_b)) (done 0)
    ∷ volume_at 0 (entry 0 sigla 0 0 2 (1 ∷ []) ++ entry 0xE5 a_equals_b 0 0 8 (2 ∷ []) ++ empty 30)
    ∷ held_are (2 ∷ 0 ∷ 0 ∷ 0 ∷ [])
    ∷ []

abbrev pub typing : List Script
typing = script (disk (empty 32)) on_typing ∷ script volume_old on_old ∷ []

typing_holds : seen typing ≡ told typing
unfolding seen told old
typing_holds = refl
