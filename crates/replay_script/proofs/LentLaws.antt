-- The numbers of the code and the calls of the definition agree, each of the 256 looked at.
use mathlib.Core.Path.{◌≡◌, refl}
use mathlib.Core.Bool.{Bool, true, false, ◌&&◌, ◌||◌}
use Prim.Native.Nat.{ℕ, ◌<◌}
use native.Mathlib.Omega.{arith}
use lib.Dec.{leb, eqb}
use Rattle.lists.specs.Bounded.{every_from}
use Rattle.lists.proofs.BoundedLaws.{every_true}
use Rattle.call_served.specs.Calls.{call_of}
use Rattle.replay_script.specs.Lends.{is_served, lends_fcb, lends_buffer}

abbrev alike : Bool → Bool → Bool
alike true true = true
alike true false = false
alike false true = false
alike false false = true

alike_true : (a b : Bool) → alike a b ≡ true → a ≡ b
alike_true true true h = refl
alike_true true false h = absurd (let z : ◌≡◌ {A = ℕ} 0 1 = cc in omega arith)
alike_true false true h = absurd (let z : ◌≡◌ {A = ℕ} 0 1 = cc in omega arith)
alike_true false false h = refl

abbrev block_number : ℕ → Bool
block_number n = (leb 15 n && leb n 17) || (leb 19 n && leb n 23) || eqb n 30 || (leb 33 n && leb n 36) || eqb n 40 || eqb n 220 || eqb n 221

abbrev buffer_number : ℕ → Bool
buffer_number n = eqb n 17 || eqb n 18 || eqb n 20 || eqb n 21 || eqb n 33 || eqb n 34 || eqb n 40 || eqb n 220 || eqb n 221

abbrev served_number : ℕ → Bool
served_number n = lends_fcb (call_of n) || eqb n 13 || eqb n 18 || eqb n 28 || eqb n 32 || eqb n 37

all_blocks : every_from (λ n. alike (block_number n) (lends_fcb (call_of n))) 0 256 ≡ true
unfolding every_from call_of
all_blocks = refl

all_buffers : every_from (λ n. alike (buffer_number n) (lends_buffer (call_of n))) 0 256 ≡ true
unfolding every_from call_of
all_buffers = refl

all_served : every_from (λ n. alike (served_number n) (is_served (call_of n))) 0 256 ≡ true
unfolding every_from call_of
all_served = refl

pub block_number_lem : (n : ℕ) → n < 256 → block_number n ≡ lends_fcb (call_of n)
block_number_lem n h = alike_true _ _ (every_true (λ n. alike (block_number n) (lends_fcb (call_of n))) 0 256 all_blocks n (omega arith) (omega arith))

pub buffer_number_lem : (n : ℕ) → n < 256 → buffer_number n ≡ lends_buffer (call_of n)
buffer_number_lem n h = alike_true _ _ (every_true (λ n. alike (buffer_number n) (lends_buffer (call_of n))) 0 256 all_buffers n (omega arith) (omega arith))

pub served_number_lem : (n : ℕ) → n < 256 → served_number n ≡ is_served (call_of n)
served_number_lem n h = alike_true _ _ (every_true (λ n. alike (served_number n) (is_served (call_of n))) 0 256 all_served n (omega arith) (omega arith))
