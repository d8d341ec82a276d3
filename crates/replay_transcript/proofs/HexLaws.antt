-- Hex, byte by byte: for the loop that lays the digits, and run by run: for the one that appends them.
use mathlib.Core.Path.{◌≡◌, refl}
use mathlib.Core.List.{List, [], ◌∷◌, ◌++◌, append_assoc}
use Prim.Native.Nat.{ℕ, suc, ◌+◌, ◌*◌, ◌/◌, ◌%◌, ◌<◌, ◌≤◌}
use native.Mathlib.Omega.{arith}
use Rattle.std.proofs.lemmas.List.{take_more}
use lib.ListN.{length, get_or, take, set, length-set}
use lib.Seq.{take-suc-set}
use Rattle.replay_transcript.specs.Hex.{hex_digit, hex}

pub hex_append : (l m : List ℕ) → hex (l ++ m) ≡ hex l ++ hex m
unfolding hex
hex_append [] m = refl
hex_append (b ∷ l) m = rw (hex_append l m)

pub hex_more : (s : List ℕ) (i : ℕ) → i < length s
    → hex (take (i + 1) s) ≡ hex (take i s) ++ (hex_digit (get_or s i 0 / 16) ∷ hex_digit (get_or s i 0 % 16) ∷ [])
unfolding hex
hex_more s i h = rw (take_more s i 0 h, hex_append)

-- the digits of byte i laid behind those of the bytes before it
pub laid_more : (s d : List ℕ) (i a b : ℕ) → i < length s → 2 * length s ≤ length d → take (2 * i) d ≡ hex (take i s)
    → a ≡ hex_digit (get_or s i 0 / 16) → b ≡ hex_digit (get_or s i 0 % 16)
    → take (2 * (i + 1)) (set (set d (2 * i) a) (2 * i + 1) b) ≡ hex (take (i + 1) s)
laid_more s d i a b h r t p q =
    let z : 2 * (i + 1) ≡ suc (2 * i + 1) = omega arith in
    let y : 2 * i + 1 ≡ suc (2 * i) = omega arith in
    let k : 2 * i + 1 < length (set d (2 * i) a) = rw (length-set) (omega arith) in
    rw (z, take-suc-set (set d (2 * i) a) (2 * i + 1) b k, y, take-suc-set d (2 * i) a (omega arith), t, append_assoc, hex_more s i h, ← p, ← q) refl
