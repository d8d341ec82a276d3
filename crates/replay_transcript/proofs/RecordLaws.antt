-- Laws of records: the bytes of a record, two runs of bytes compared, and the loop over records.
use mathlib.Core.Path.{◌≡◌, refl, sym, ap, ◌∙◌}
use mathlib.Core.Bool.{Bool, true, false, not, cond, ◌&&◌}
use mathlib.Core.List.{List, [], ◌∷◌, ◌++◌, append_assoc}
use native.Mathlib.Nat.{add-zero}
use Rattle.std.proofs.lemmas.List.{append-nil}
use Prim.Native.Nat.{ℕ, zero, suc, ◌+◌, ◌-◌, ◌*◌, ◌/◌, ◌<◌, ◌≤◌, min}
use native.Mathlib.Numerals.{add-one}
use native.Mathlib.Omega.{arith}
use native.Mathlib.Decide.{dec_le}
use lib.ListN.{length, take, drop, drop_of_length-le, length-drop}
use lib.Seq.{take_all}
use borrow.Author.Tests.{not-true, not-false}
use lib.Dec.{eqb}
use lib.Pointwise.{pointwise}
use Rattle.lists.specs.Bytes.{part}
use Rattle.disk_volume.specs.Name.{same}
use Rattle.replay_transcript.specs.Records.{record_of, record_line, record_lines}

-- ---- two runs of bytes, compared as `==` compares them
equal_same : (a b : List ℕ) → pointwise eqb a b ≡ same a b
unfolding same
equal_same [] [] = refl
equal_same [] (y ∷ b) = refl
equal_same (x ∷ a) [] = refl
equal_same (x ∷ a) (y ∷ b) = rw (equal_same a b) (go (eqb x y) (same a b))
  where
    go : (t u : Bool) → (t && u) ≡ cond t u false
    go true u = refl
    go false u = refl

pub same_not : {t : Bool} (a b : List ℕ) → t ≡ not (pointwise eqb a b) → t ≡ true → same a b ≡ false
same_not a b e h = sym (equal_same a b) ∙ not-true (pointwise eqb a b) (sym e ∙ h)

pub same_so : {t : Bool} (a b : List ℕ) → t ≡ not (pointwise eqb a b) → t ≡ false → same a b ≡ true
same_so a b e h = sym (equal_same a b) ∙ not-false (pointwise eqb a b) (sym e ∙ h)

-- ---- the bytes of a record
as_long : (m : ℕ) (l : List ℕ) → m ≡ min (length l) 128 → take m l ≡ take 128 l
as_long m l e = elim (dec_le (length l) 128) [
  | yes h ↦ rw (take_all m l (omega arith), take_all 128 l h)
  | no h ↦ let z : m ≡ 128 = omega arith in rw z
]

pub record_behind : (s : List ℕ) (q : ℕ) → length s / 128 < q → take (length s - length s) (drop (length s) s) ≡ record_of s q
unfolding part
record_behind s q h =
    let k : length s ≤ 128 * q = omega arith in
    let z : length s - length s ≡ 0 = omega arith in
    rw (z, drop_of_length-le s k)

pub record_there : (s : List ℕ) (q m : ℕ) → 128 * q ≤ length s → m ≡ min (length (take (length s - 128 * q) (drop (128 * q) s))) 128
    → take m (take (length s - 128 * q) (drop (128 * q) s)) ≡ record_of s q
unfolding part
record_there s q m h e =
    let all : length (drop (128 * q) s) ≤ length s - 128 * q = rw length-drop (omega arith) in
    rw (take_all (length s - 128 * q) (drop (128 * q) s) all) (as_long m (drop (128 * q) s) (rw (take_all (length s - 128 * q) (drop (128 * q) s) all) at e))

-- ---- the loop over records
lines_more : (given v : List ℕ) (q k : ℕ) → record_lines given v q (k + 1) ≡ record_lines given v q k ++ record_line given v (q + k)
unfolding record_lines
lines_more given v q zero = rw (add-zero, append-nil)
lines_more given v q (suc k) =
    let z : suc q + k ≡ q + suc k = omega arith in
    let more : record_lines given v (suc q) (suc k) ≡ record_lines given v (suc q) k ++ record_line given v (suc q + k) = rw add-one at (lines_more given v (suc q) k) in
    rw (add-one, append_assoc, ← z) (ap (λ (l : List ℕ). record_line given v q ++ l) more)

pub next_record : (given v : List ℕ) (from q to : ℕ) → from ≤ q → q < to
    → record_lines given v from (min (q + 1) to - from) ≡ record_lines given v from (min q to - from) ++ record_line given v q
next_record given v from q to a b =
    let x : min (q + 1) to - from ≡ (q - from) + 1 = omega arith in
    let y : min q to - from ≡ q - from = omega arith in
    let z : from + (q - from) ≡ q = omega arith in
    rw (x, y) (rw z at (lines_more given v from (q - from)))
