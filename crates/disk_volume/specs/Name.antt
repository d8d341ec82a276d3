-- Names: the eleven bytes of name and type. "Names compare without top bits."
use Rattle.std.specs.Prelude.{Bool, true, false, not, cond, ◌&&◌, ◌||◌, List, [], ◌∷◌, ℕ, ◌/◌, ◌%◌, ◌*◌, leb, eqb}
use Rattle.lists.specs.Bytes.{byte, part, all}
use Rattle.disk_volume.specs.Fields.{NAME, name_bytes}

-- "3FH matches any byte", and the blank, 20H
abbrev pub WILDCARD : ℕ
WILDCARD = 0x3F

abbrev pub BLANK : ℕ
BLANK = 0x20

-- what a top bit counts in its byte
abbrev pub TOPBIT : ℕ
TOPBIT = 128

-- the bytes without their top bits
unfoldable pub strip : List ℕ → List ℕ
strip [] = []
strip (x ∷ xs) = x % TOPBIT ∷ strip xs

-- a byte's top bit, as it stands in the byte
abbrev pub top_bit : ℕ → ℕ
top_bit x = x / TOPBIT * TOPBIT

-- the name that stands from byte a on, without top bits; bytes 1..11 in an entry and in a control block
unfoldable pub name_at : List ℕ → ℕ → List ℕ
name_at l a = strip (part l a name_bytes)

abbrev pub name_of : List ℕ → List ℕ
name_of l = name_at l NAME

-- two names are the same
unfoldable pub same : List ℕ → List ℕ → Bool
same [] [] = true
same [] (y ∷ ys) = false
same (x ∷ xs) [] = false
same (x ∷ xs) (y ∷ ys) = let rest = same xs ys in cond (eqb x y) rest false

-- a name matches a pattern: "3FH matches any byte"
unfoldable pub like : List ℕ → List ℕ → Bool
like [] [] = true
like [] (p ∷ ps) = false
like (x ∷ xs) [] = false
like (x ∷ xs) (p ∷ ps) = let rest = like xs ps in cond (eqb p WILDCARD || eqb x p) rest false

-- "name bytes without top bits are 20H..7EH and not 3FH, the first not 20H"; 3FH passes in a pattern
abbrev pub name_byte : Bool → ℕ → Bool
name_byte pattern x = leb BLANK x && leb x 0x7E && (pattern || not (eqb x WILDCARD))

unfoldable pub good_name : Bool → List ℕ → Bool
good_name pattern name = all (name_byte pattern) name && not (eqb (byte name 0) BLANK)
