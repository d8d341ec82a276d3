-- "A second call says which manuscript a siglum means: the name is handed back as the very part of the edition's own list
-- or, if that lacks it, of the house list; lists have 32-byte lines, two of siglum and thirty of name, and the first match
-- counts." .. "52 a list's length no multiple of 32, 51 siglum in neither list (for both an empty part comes back)."
use Prim.{Unit}
use Rattle.std.specs.Prelude.{Bool, not, cond, ◌||◌, List, ℕ, ◌+◌, ◌*◌, ◌/◌, ◌%◌, ◌≤◌, eqb, ltb, length, Result, Ok, Err}
use Rattle.std.specs.Borrow.{Bor}
use Rattle.lists.specs.Bounded.{lowest}
use Rattle.lists.specs.Bytes.{part}
use Rattle.numbers.specs.Numbers.{two}
use Rattle.desk_manuscripts.specs.declared.Place.{Place}
use Rattle.desk_manuscripts.specs.declared.Place.TheVariants.{Own, House}
use Rattle.desk_manuscripts.specs.declared.Unexplained.{Unexplained}
use Rattle.desk_manuscripts.specs.declared.Unexplained.TheVariants.{Neither, Lists}

-- "32-byte lines, two of siglum and thirty of name"
abbrev pub line_bytes : ℕ
line_bytes = 32

abbrev pub name_at : ℕ
name_at = 2

abbrev pub name_bytes : ℕ
name_bytes = 30

-- the number of lines
abbrev pub lines : List ℕ → ℕ
lines list = length list / line_bytes

-- line i has this siglum
abbrev pub line_is : List ℕ → ℕ → ℕ → Bool
line_is list siglum i = eqb (two list (i * line_bytes)) siglum

-- "the first match counts"; the number of lines where there is none
unfoldable pub line_of : List ℕ → ℕ → ℕ
line_of list siglum = lowest (lines list) (line_is list siglum)

-- the length is no multiple of 32
abbrev pub uneven : List ℕ → Bool
uneven list = not (eqb (length list % line_bytes) 0)

-- "of the edition's own list or, if that lacks it, of the house list"; 52 for either list comes first
unfoldable pub where_of : ℕ → List ℕ → List ℕ → Result Place Unexplained
where_of siglum own house =
    cond (uneven own || uneven house) (Err Lists)
    (cond (ltb (line_of own siglum) (lines own)) (Ok (Own (line_of own siglum)))
    (cond (ltb (line_of house siglum) (lines house)) (Ok (House (line_of house siglum))) (Err Neither)))

-- a line that is answered lies in its list
abbrev pub InLists : ℕ → ℕ → Result Place Unexplained → Type 0
InLists o h (Ok (Own i)) = i * line_bytes + line_bytes ≤ o
InLists o h (Ok (House j)) = j * line_bytes + line_bytes ≤ h
InLists o h (Err why) = Unit

-- the number of the answer
abbrev pub unexplained_number : Unexplained → ℕ
unexplained_number Neither = 51
unexplained_number Lists = 52

abbrev pub number_of : Result Place Unexplained → ℕ
number_of (Ok place) = 0
number_of (Err why) = unexplained_number why

-- a reference to bytes as a reader of the memory sees it: where it points, and the bytes
abbrev pub seen : Bor (List ℕ) → (ℕ × ℕ) × List ℕ
seen x = (x.ref_ptr, x.now)

-- the part of n bytes from byte a on of what x refers to
abbrev pub part_of : Bor (List ℕ) → ℕ → ℕ → (ℕ × ℕ) × List ℕ
part_of x a n = ((x.ref_ptr.0, a + x.ref_ptr.1), part x.now a n)

-- "the very part" of the one list or of the other, else an empty part
abbrev pub part_for : Result Place Unexplained → Bor (List ℕ) → Bor (List ℕ) → (ℕ × ℕ) × List ℕ
part_for (Ok (Own i)) own house = part_of own (i * line_bytes + name_at) name_bytes
part_for (Ok (House j)) own house = part_of house (j * line_bytes + name_at) name_bytes
part_for (Err why) own house = part_of own 0 0
