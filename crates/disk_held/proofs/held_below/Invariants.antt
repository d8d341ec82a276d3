-- `disk_held::held_below` meets its contract. The loop has the count of the words passed, and below n there is a part of one more.
use mathlib.Core.Path.{◌≡◌, sym, ap, ap₂, ◌∙◌}
use mathlib.Core.List.{List}
use Prim.Native.Nat.{ℕ, ◌+◌, ◌*◌, ◌%◌, ◌^◌, ◌≤◌, min}
use native.Mathlib.Omega.{arith}
use lib.Count.{ones}
use lib.ListN.{get_or}
use Rattle.lists.specs.Bounded.{count_from}
use Rattle.disk_held.specs.Held.{holds}
use Rattle.disk_held.proofs.CountLaws.{held_word}
use Rattle.disk_held.proofs.held_below.Given as goal

-- k blocks of word i more
pub more : (held : List ℕ) (i k sum r : ℕ) → k ≤ 64 → sum ≡ count_from (holds held) 0 (64 * i) → r ≡ ones (get_or held i 0 % 2 ^ min k 64)
    → sum + r ≡ count_from (holds held) 0 (64 * i + k)
more held i k sum r h s e =
    let z : min k 64 ≡ k = omega arith in
    ap₂ (λ (x y : ℕ). x + y) s (e ∙ ap (λ (x : ℕ). ones (get_or held i 0 % 2 ^ x)) z) ∙ sym (held_word held i k h)

abbrev pub invariant-loop-i : goal.invariant-loop-i
invariant-loop-i l = (l.sum ≤ 64 * l.i) × (l.sum ≡ count_from (holds l.held) 0 (64 * l.i))
