-- What the tests of a header and of a call tell.
use mathlib.Core.Path.{◌≡◌, ap}
use mathlib.Core.Bool.{Bool, true, false, not, cond, ◌&&◌}
use mathlib.Core.List.{List}
use Prim.Native.Nat.{ℕ, ◌+◌}
use native.Mathlib.Omega.{arith}
use lib.Dec.{leb, eqb}
use lib.ListN.{length}
use borrow.Author.Tests.{not-true, not-false, ne_eqb}
use Rattle.lists.specs.Bytes.{byte}
use Rattle.replay_script.specs.declared.Next.TheVariants.{End, Bad, Call}
use Rattle.numbers.specs.Numbers.{two}
use Rattle.replay_script.specs.declared.Head.{Head}
use Rattle.replay_script.specs.Script.{is_known, call_length, head_of, next_of, lent_by, call_at}

module _ (s : List ℕ) {f b k : ℕ} {known : Bool}
    (ef : f ≡ byte s 0) (eb : b ≡ byte s 2) (ek : k ≡ two s (3 + b)) (en : known ≡ is_known f) (some : length s ≡ 0 → ⊥) where
  whole : leb (5 + b + k) (length s) && known ≡ leb (call_length s) (length s) && is_known (byte s 0)
  unfolding call_length
  whole = rw (en, ef, ek, eb)

  pub next_bad : not (leb (5 + b + k) (length s) && known) ≡ true → Bad ≡ next_of s
  unfolding next_of
  next_bad h = rw (ne_eqb (length s) 0 some, ← whole, not-true (leb (5 + b + k) (length s) && known) h)

  pub next_call : (p : ℕ) → p ≡ byte s 1 → not (leb (5 + b + k) (length s) && known) ≡ false
      → Call (record { function = f; parameter = p; fcb = b; buffer = k }) ≡ next_of s
  unfolding next_of
  next_call p ep h = rw (ne_eqb (length s) 0 some, ← whole, not-false (leb (5 + b + k) (length s) && known) h, ep, ek, eb, ef)

-- a call that stands next is the one whose head was read
pub next_head : (s : List ℕ) (h : Head) → next_of s ≡ Call h → head_of s ≡ h
unfolding next_of
next_head s h e = go (eqb (length s) 0) (leb (call_length s) (length s) && is_known (byte s 0)) e
  where
    go : (a b : Bool) → cond a End (cond b (Call (head_of s)) Bad) ≡ Call h → head_of s ≡ h
    go true b e = absurd (let z : ◌≡◌ {A = ℕ} 0 1 = cc in omega arith)
    go false true e = cc
    go false false e = absurd (let z : ◌≡◌ {A = ℕ} 0 1 = cc in omega arith)

pub next_lent_lem : (s : List ℕ) (h : Head) → next_of s ≡ Call h → call_at s ≡ lent_by h s
unfolding call_at
next_lent_lem s h e = ap (λ (x : Head). lent_by x s) (next_head s h e)
