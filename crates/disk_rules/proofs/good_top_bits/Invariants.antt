-- The bytes passed so far carry no top bit, or are bytes 9 and 10, so what is left decides.
use mathlib.Core.Bool.{Bool, ◌||◌}
use mathlib.Core.List.{List}
use Prim.Native.Nat.{ℕ, ◌+◌}
use lib.Dec.{ltb, eqb}
use Rattle.lists.specs.Bytes.{byte}
use Rattle.lists.proofs.BoundedLaws.{Passed}
use Rattle.disk_rules.proofs.good_top_bits.Given as goal

-- byte k of the name passes
abbrev pub good_at : List ℕ → ℕ → Bool
good_at e k = ltb (byte e (1 + k)) 128 || eqb k 8 || eqb k 9

abbrev pub invariant-loop-k : goal.invariant-loop-k
invariant-loop-k l = Passed (good_at l.e) 0 11 l.k
