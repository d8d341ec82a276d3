-- Names that can be typed: "Make, and rename for its new name, refuse small letters and the characters < > . , ; : = * [ ]
-- and a blank before a later non-blank within name or within type." The names are those without top bits.
use Rattle.std.specs.Prelude.{Bool, true, false, not, cond, ◌&&◌, ◌||◌, List, [], ◌∷◌, ℕ, ◌-◌, leb, eqb}
use Rattle.lists.specs.Bytes.{part, all}
use Rattle.disk_volume.specs.Fields.{NAME, TYPE, name_bytes}
use Rattle.disk_volume.specs.Name.{BLANK}

-- "small letters"
abbrev pub small_letter : ℕ → Bool
small_letter x = leb 0x61 x && leb x 0x7A

-- "the characters < > . , ; : = * [ ]"
abbrev pub character : ℕ → Bool
character x =
    eqb x 0x3C || eqb x 0x3E || eqb x 0x2E || eqb x 0x2C || eqb x 0x3B
    || eqb x 0x3A || eqb x 0x3D || eqb x 0x2A || eqb x 0x5B || eqb x 0x5D

unfoldable pub typeable_byte : ℕ → Bool
typeable_byte x = not (small_letter x || character x)

abbrev pub is_blank : ℕ → Bool
is_blank x = eqb x BLANK

-- "a blank before a later non-blank"
unfoldable pub blank_before : List ℕ → Bool
blank_before [] = false
blank_before (x ∷ xs) = let rest = blank_before xs in cond (is_blank x && not (all is_blank xs)) true rest

-- name and type of the eleven bytes: "1..8 name; 9..11 type"
abbrev pub type_start : ℕ
type_start = TYPE - NAME

abbrev pub name_part : List ℕ → List ℕ
name_part name = part name 0 type_start

abbrev pub type_part : List ℕ → List ℕ
type_part name = part name type_start (name_bytes - type_start)

-- "within name or within type": each is looked at by itself
unfoldable pub typeable : List ℕ → Bool
typeable name = all typeable_byte name && not (blank_before (name_part name)) && not (blank_before (type_part name))
