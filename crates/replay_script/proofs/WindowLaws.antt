-- Laws of windows: how bytes move to the front, and that a window with room for the longest call is enough to know the next.
use mathlib.Core.Path.{◌≡◌, ap, ◌∙◌}
use mathlib.Core.Logic.{inl}
use mathlib.Core.List.{List, ◌++◌}
use Prim.Native.Nat.{ℕ, ◌+◌, ◌-◌, ◌<◌, ◌≤◌}
use native.Mathlib.Nat.{zero-add}
use native.Mathlib.Omega.{arith}
use lib.ListN.{length, drop, length-append, length-drop, get_or-append}
use lib.Seq.{paste, take-append-le, drop-append-le}
use borrow.Author.Tests.{le-leb, lt-leb, ne_eqb}
use Rattle.lists.specs.Bytes.{byte, part, put}
use Rattle.lists.proofs.PartLaws.{length_part, part_put, part_apart}
use Rattle.replay_script.specs.Script.{fcb_length, buffer_length, call_length, head_of, next_of, call_at}
use Rattle.replay_script.specs.CodeWindow.{shifted}

-- ---- bytes moved to the front
pub moved : (w e : List ℕ) (from n : ℕ) → e ≡ paste w 0 (drop from w) ((from + n) - from) → from + n ≤ length w → e ≡ shifted w from n
unfolding shifted put part
moved w e from n h k =
    let z : (from + n) - from ≡ n = omega arith in
    h ∙ rw (z, le-leb (from + n) (length w) k, zero-add)

pub shift_not : (w : List ℕ) (from n : ℕ) → length w < from + n → w ≡ shifted w from n
unfolding shifted
shift_not w from n h = rw (lt-leb (from + n) (length w) h)

-- what has moved to the front stays there when more is read behind it
pub front_stays : (w e new : List ℕ) (from n : ℕ) → from + n ≤ length w → e ≡ shifted w from n → length e ≡ length w → length new ≡ length e - n
    → part (put e n (length e - n) new) 0 n ≡ part w from n
unfolding shifted
front_stays w e new from n h s l k =
    let a : n + (length e - n) ≤ length e = omega arith in
    let b : 0 + n ≤ length w = omega arith in
    part_apart e n (length e - n) new 0 n a k (inl (omega arith))
    ∙ ap (λ (x : List ℕ). part x 0 n) (s ∙ rw (le-leb (from + n) (length w) h))
    ∙ part_put w 0 n b (part w from n) (length_part w from n h)

-- ---- a window with room for the longest call: what stands next in it stands next in the whole script
module _ (w z : List ℕ) (small : (k : ℕ) → byte w k < 256) (room : 65795 ≤ length w) where
  byte_is : (k : ℕ) → k < 65795 → byte (w ++ z) k ≡ byte w k
  byte_is k h = get_or-append w z 0 k (omega arith)

  part_is : (a n : ℕ) → a + n ≤ 65795 → part (w ++ z) a n ≡ part w a n
  unfolding part
  part_is a n h =
      let l : a ≤ length w = omega arith in
      let k : n ≤ length (drop a w) = rw length-drop (omega arith) in
      rw (drop-append-le a w z l, take-append-le n (drop a w) z k)

  block_is : fcb_length (w ++ z) ≡ fcb_length w
  block_is = byte_is 2 (omega arith)

  buffer_is_lem : buffer_length (w ++ z) ≡ buffer_length w
  buffer_is_lem =
      let s = small 2 in
      rw (block_is, byte_is (3 + byte w 2) (omega arith), byte_is (3 + byte w 2 + 1) (omega arith))

  head_is : head_of (w ++ z) ≡ head_of w
  head_is = rw (byte_is 0 (omega arith), byte_is 1 (omega arith), buffer_is_lem, block_is)

  short : call_length w ≤ 65795
  unfolding call_length
  short = omega (arith, small 2, small (3 + byte w 2), small (3 + byte w 2 + 1))

  length_is : call_length (w ++ z) ≡ call_length w
  unfolding call_length
  length_is = rw (buffer_is_lem, block_is)

  pub next_in_window : next_of (w ++ z) ≡ next_of w
  unfolding next_of
  next_in_window =
      let s = short in
      let a : call_length w ≤ length (w ++ z) = rw length-append (omega arith) in
      let b : call_length w ≤ length w = omega arith in
      let n : length (w ++ z) ≡ 0 → ⊥ = rw length-append (omega arith) in
      let m : length w ≡ 0 → ⊥ = omega arith in
      rw (ne_eqb (length (w ++ z)) 0 n, ne_eqb (length w) 0 m, length_is, le-leb (call_length w) (length (w ++ z)) a, le-leb (call_length w) (length w) b, head_is, byte_is 0 (omega arith))

  pub call_in_window : call_at (w ++ z) ≡ call_at w
  unfolding call_at
  call_in_window =
      let s : 5 + byte w 2 + buffer_length w ≤ 65795 = unfold call_length in short in
      rw (byte_is 0 (omega arith), byte_is 1 (omega arith), buffer_is_lem, block_is, part_is 3 (byte w 2) (omega arith), part_is (5 + byte w 2) (buffer_length w) (omega arith))
