-- The name of an entry byte by byte, and a number's lowest bytes as std lays them.
use mathlib.Core.Path.{◌≡◌}
use mathlib.Core.List.{List, [], ◌∷◌}
use Prim.Native.Nat.{ℕ, ◌/◌, ◌%◌, ◌<◌}
use native.Mathlib.Omega.{arith}
use lib.ListN.{length}
use lib.Seq.{drop-cons}
use Rattle.std.specs.Int.{w64, to_le_bytes}
use Rattle.lists.specs.Bytes.{byte, part}
use Rattle.numbers.specs.Numbers.{bytes_of}
use Rattle.disk_geometry.specs.Geometry.{entry_bytes}
use Rattle.disk_volume.specs.Name.{strip, name_at, name_of}

-- name byte k of the entry
abbrev bare : List ℕ → ℕ → ℕ
bare e k = byte e k % 128

pub name_bytes_lem : (e : List ℕ) → length e ≡ entry_bytes
    → name_of e ≡ bare e 1 ∷ bare e 2 ∷ bare e 3 ∷ bare e 4 ∷ bare e 5 ∷ bare e 6 ∷ bare e 7 ∷ bare e 8 ∷ bare e 9 ∷ bare e 10 ∷ bare e 11 ∷ []
unfolding name_at strip part
name_bytes_lem e h =
    let in_e : (k : ℕ) → k < 12 → k < length e = λ k l. omega arith in
    rw (drop-cons e 1 0 (in_e 1 (omega arith)), drop-cons e 2 0 (in_e 2 (omega arith)), drop-cons e 3 0 (in_e 3 (omega arith)), drop-cons e 4 0 (in_e 4 (omega arith)), drop-cons e 5 0 (in_e 5 (omega arith)), drop-cons e 6 0 (in_e 6 (omega arith)), drop-cons e 7 0 (in_e 7 (omega arith)), drop-cons e 8 0 (in_e 8 (omega arith)), drop-cons e 9 0 (in_e 9 (omega arith)), drop-cons e 10 0 (in_e 10 (omega arith)), drop-cons e 11 0 (in_e 11 (omega arith)))

pub four_lowest : (x : ℕ) (l : List ℕ) → l ≡ to_le_bytes w64 x → bytes_of 4 x ≡ byte l 0 ∷ byte l 1 ∷ byte l 2 ∷ byte l 3 ∷ []
unfolding bytes_of
four_lowest x l e =
    let third : x / 256 / 256 % 256 ≡ x / 65536 % 256 = omega arith in
    let fourth : x / 256 / 256 / 256 % 256 ≡ x / 16777216 % 256 = omega arith in
    rw (e, third, fourth)

pub two_lowest : (x : ℕ) (l : List ℕ) → l ≡ to_le_bytes w64 x → bytes_of 2 x ≡ byte l 0 ∷ byte l 1 ∷ []
unfolding bytes_of
two_lowest x l e = rw e
