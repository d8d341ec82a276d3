-- Where sigla are explained: the first match of the own list, else of the house list; 51 and 52; and the thirty bytes that are handed back.
use mathlib.Core.Path.{◌≡◌, refl}
use mathlib.Core.List.{List, [], ◌∷◌, ◌++◌, map}
use Prim.Native.Nat.{ℕ, ◌+◌}
use lib.ListN.{replicate}
use denote.Ref.{Bor}
use Rattle.lists.specs.Bounded.{low_from}
use Rattle.lists.specs.Bytes.{part}
use Rattle.std.specs.Prelude.{Result, Ok, Err}
use Rattle.desk_manuscripts.specs.declared.Place.{Place}
use Rattle.desk_manuscripts.specs.declared.Place.TheVariants.{Own, House}
use Rattle.desk_manuscripts.specs.declared.Unexplained.{Unexplained}
use Rattle.desk_manuscripts.specs.declared.Unexplained.TheVariants.{Neither, Lists}
use Rattle.desk_manuscripts.specs.Manuscript.{line_of, where_of, number_of, part_for}

-- siglum, and thirty times the same byte as a name
abbrev pub line : ℕ → ℕ → ℕ → List ℕ
line a b name = a ∷ b ∷ replicate 30 name

abbrev pub own : List ℕ
own = line 65 32 97 ++ line 66 32 98 ++ line 66 32 99

abbrev pub house : List ℕ
house = line 66 32 100 ++ line 67 32 101

abbrev pub answers : List (Result Place Unexplained)
answers = where_of 8258 own house ∷ where_of 8259 own house ∷ where_of 8260 own house ∷ []

pub explained : answers ≡ Ok (Own 1) ∷ Ok (House 1) ∷ Err Neither ∷ []
unfolding where_of line_of low_from
explained = refl

-- a byte too much in the house list or in the own list: 52 before what the own list explains, and before 51
abbrev pub uneven_answers : List (Result Place Unexplained)
uneven_answers =
    where_of 8258 own (66 ∷ house) ∷ where_of 8260 own (66 ∷ house) ∷ where_of 8259 (own ++ 66 ∷ []) house ∷ where_of 8260 (66 ∷ own) house ∷ []

pub uneven_first : uneven_answers ≡ Err Lists ∷ Err Lists ∷ Err Lists ∷ Err Lists ∷ []
unfolding where_of line_of low_from
uneven_first = refl

-- "51 siglum in neither list", "52 a list's length no multiple of 32"
pub numbers : (map number_of answers ≡ 0 ∷ 0 ∷ 51 ∷ []) × (map number_of uneven_answers ≡ 52 ∷ 52 ∷ 52 ∷ 52 ∷ [])
unfolding where_of line_of low_from
numbers = (refl, refl)

-- "the very part of the edition's own list or .. of the house list": the thirty bytes from byte 34 on of the one that is lent, or of the
-- other; for 51 and 52 "an empty part comes back"
pub record Names (x y : Bor (List ℕ)) : Type 0 where
  pub in_own : part_for (where_of 8258 x.now y.now) x y ≡ ((x.ref_ptr.0, 34 + x.ref_ptr.1), replicate 30 98)
  pub in_house : part_for (where_of 8259 x.now y.now) x y ≡ ((y.ref_ptr.0, 34 + y.ref_ptr.1), replicate 30 101)
  pub in_neither : (part_for (where_of 8260 x.now y.now) x y).1 ≡ []

pub names : (x y : Bor (List ℕ)) → x.now ≡ own → y.now ≡ house → Names x y
unfolding where_of line_of low_from part
names x y o h = record { in_own = rw (o, h); in_house = rw (o, h); in_neither = rw (o, h) }

pub no_name : (x y : Bor (List ℕ)) → x.now ≡ own → y.now ≡ 66 ∷ house → (part_for (where_of 8258 x.now y.now) x y).1 ≡ []
unfolding where_of line_of low_from part
no_name x y o h = rw (o, h)
