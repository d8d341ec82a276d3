-- Laws of lists laid one behind the other: one more, their length, a part within one of them, and the loop that lays them.
use mathlib.Core.Path.{◌≡◌, sym, ap, ◌∙◌}
use mathlib.Core.List.{List, ◌++◌, append_assoc, append-nil}
use Prim.Native.Nat.{ℕ, zero, suc, ◌+◌, ◌*◌, ◌≤◌, ◌<◌}
use native.Mathlib.Numerals.{add-one}
use native.Mathlib.Omega.{arith}
use lib.ListN.{length, take, drop, length-append, length-drop}
use lib.Seq.{take-add, take_at, take_all, drop-drop, drop-append-le, drop-append-add, take-append-le, length-take-le}
use Rattle.lists.specs.Bytes.{byte, part}
use Rattle.joined.specs.Joined.{joined}
use Rattle.lists.proofs.PartLaws.{byte_part}

pub part_add : (l : List ℕ) (a k m : ℕ) → part l a (k + m) ≡ part l a k ++ part l (a + k) m
unfolding part
part_add l a k m = take-add k m (drop a l) ∙ rw drop-drop

-- one thing more
pub joined_more : (r : ℕ → List ℕ) (i k : ℕ) → joined r i (suc k) ≡ joined r i k ++ r (i + k)
unfolding joined
joined_more r i zero = let z : i + 0 ≡ i = omega arith in rw z (append-nil (r i))
joined_more r i (suc k) =
    let z : suc i + k ≡ i + suc k = omega arith in
    ap (λ (x : List ℕ). r i ++ x) (joined_more r (suc i) k) ∙ rw z (sym (append_assoc (r i) (joined r (suc i) k) (r (i + suc k))))

-- things of one length
module _ (r : ℕ → List ℕ) (each : ℕ) (size : (n : ℕ) → length (r n) ≡ each) where
  pub joined_length : (i k : ℕ) → length (joined r i k) ≡ each * k
  unfolding joined
  joined_length i zero = omega arith
  joined_length i (suc k) = rw (length-append, size i, joined_length (suc i) k) (omega arith)

  -- a part within one of them
  pub joined_part : (i k n from m : ℕ) → n < k → from + m ≤ each → part (joined r i k) (each * n + from) m ≡ part (r (i + n)) from m
  unfolding joined part
  joined_part i zero n from m h f = absurd (omega arith)
  joined_part i (suc k) zero from m h f =
      let z : each * 0 + from ≡ from = omega arith in
      let y : i + 0 ≡ i = omega arith in
      let l : from ≤ length (r i) = omega (arith, size i) in
      let q : m ≤ length (drop from (r i)) = rw length-drop (omega (arith, size i)) in
      rw (z, y, drop-append-le from (r i) (joined r (suc i) k) l, take-append-le m (drop from (r i)) (joined r (suc i) k) q)
  joined_part i (suc k) (suc n) from m h f =
      let z : each * suc n + from ≡ length (r i) + (each * n + from) = omega (arith, size i) in
      let y : i + suc n ≡ suc i + n = omega arith in
      rw (z, y, drop-append-add (r i) (joined r (suc i) k) (each * n + from)) (joined_part (suc i) k n from m (omega arith) f)

  -- a byte of one of them
  pub joined_byte : (i k n j : ℕ) → n < k → j < each → byte (joined r i k) (each * n + j) ≡ byte (r (i + n)) j
  joined_byte i k n j h f =
      let z : (x : ℕ) → x + 0 ≡ x = λ x. omega arith in
      let a = rw z at (byte_part (joined r i k) (each * n + j) 1 0 (omega arith)) in
      let b = rw z at (byte_part (r (i + n)) j 1 0 (omega arith)) in
      sym a ∙ ap (λ (l : List ℕ). byte l 0) (joined_part i k n j 1 h (omega arith)) ∙ b

-- ---- a loop that lays them: a part laid straight behind what stands before it
pub take_laid : (l x rest : List ℕ) (a : ℕ) → a ≤ length l → take (a + length x) (take a l ++ (x ++ rest)) ≡ take a l ++ x
take_laid l x rest a h =
    let k : length (take a l) ≡ a = length-take-le a l h in
    let z : length (take a l ++ x) ≡ a + length x = rw (length-append, k) in
    ap (take (a + length x)) (sym (append_assoc (take a l) x rest)) ∙ take_at (take a l ++ x) rest (a + length x) z

module _ (r : ℕ → List ℕ) (each first : ℕ) where
  pub joined_start : (l : List ℕ) → take (each * 0) l ≡ joined r first 0
  unfolding joined
  joined_start l = let z : each * 0 ≡ 0 = omega arith in rw z

  pub joined_next : (i : ℕ) (l rest : List ℕ) {x : List ℕ} → each * i ≤ length l → take (each * i) l ≡ joined r first i → x ≡ r (first + i)
      → length (r (first + i)) ≡ each → take (each * (i + 1)) (take (each * i) l ++ (x ++ rest)) ≡ joined r first (i + 1)
  joined_next i l rest {x} fits e z size =
      let n : length x ≡ each = ap length z ∙ size in
      let y : each * (i + 1) ≡ each * i + length x = omega arith in
      rw (y, take_laid l x rest (each * i) fits, e, add-one, joined_more r first i, z)

  pub joined_end : (i k : ℕ) (l : List ℕ) → i ≡ k → length l ≡ each * k → take (each * i) l ≡ joined r first i → l ≡ joined r first k
  joined_end i k l z n e =
      let w : length l ≤ each * i = rw z (omega arith) in
      sym (take_all (each * i) l w) ∙ e ∙ ap (joined r first) z
