-- "0 to 9 or A to F": the digits of a line, and the bytes that pairs of them spell (000, 4.2).
use Rattle.std.specs.Prelude.{ℕ, ◌+◌, ◌-◌, ◌*◌, Bool, cond, ◌&&◌, ◌||◌, List, nat_le}
use Prim.Native.Char.{code}
use Rattle.lists.specs.Bytes.{byte}

abbrev pub is_figure : ℕ → Bool
is_figure c = nat_le (code "0") c && nat_le c (code "9")

abbrev pub is_letter : ℕ → Bool
is_letter c = nat_le (code "A") c && nat_le c (code "F")

abbrev pub is_digit : ℕ → Bool
is_digit c = is_figure c || is_letter c

-- 0 to 15; a byte that is no digit counts as 0, and 70 is a test of its own
unfoldable pub digit_of : ℕ → ℕ
digit_of c = cond (is_figure c) (c - code "0") (cond (is_letter c) (c - code "A" + 10) 0)

-- byte k of a line, spelled by digits 2k and 2k + 1
unfoldable pub line_byte : List ℕ → ℕ → ℕ
line_byte l k = 16 * digit_of (byte l (2 * k)) + digit_of (byte l (2 * k + 1))
