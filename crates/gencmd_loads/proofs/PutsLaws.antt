-- Parts laid one after the other into places that don't meet: each part is there afterwards.
use mathlib.Core.Path.{◌≡◌, refl, ap, ◌∙◌}
use mathlib.Core.List.{List}
use mathlib.Core.Logic.{◌⊎◌}
use Prim.Native.Nat.{ℕ, zero, suc, ◌+◌, ◌-◌, ◌≤◌, ◌<◌}
use native.Mathlib.Omega.{arith}
use lib.ListN.{length}
use Rattle.lists.specs.Bytes.{byte, put}
use Rattle.lists.specs.Bounded.{fold}
use Rattle.lists.proofs.PartLaws.{length_put, byte_in, byte_out}
use Rattle.lists.proofs.FoldLaws.{fold_add}

module _ (at size : ℕ → ℕ) (new : ℕ → List ℕ) (bytes n : ℕ)
    (sized : (i : ℕ) → i < n → length (new i) ≡ size i) (room : (i : ℕ) → i < n → at i + size i ≤ bytes) where
  abbrev pub laying : List ℕ → ℕ → List ℕ
  laying m i = put m (at i) (size i) (new i)

  one_length : (m : List ℕ) (i : ℕ) → i < n → length m ≡ bytes → length (laying m i) ≡ bytes
  one_length m i l e = let r = room i l in length_put m (at i) (size i) (omega arith) (new i) (sized i l) ∙ e

  pub puts_length : (i k : ℕ) → i + k ≤ n → (m : List ℕ) → length m ≡ bytes → length (fold laying m i k) ≡ bytes
  unfolding fold
  puts_length i zero l m e = e
  puts_length i (suc k) l m e = puts_length (suc i) k (omega arith) (laying m i) (one_length m i (omega arith) e)

  later : (y i k : ℕ) → i + k ≤ n → (m : List ℕ) → length m ≡ bytes
      → ((j : ℕ) → i ≤ j → j < n → (y + 1 ≤ at j) ⊎ (at j + size j ≤ y)) → byte (fold laying m i k) y ≡ byte m y
  unfolding fold
  later y i zero l m e o = refl
  later y i (suc k) l m e o =
      let r = room i (omega arith) in
      later y (suc i) k (omega arith) (laying m i) (one_length m i (omega arith) e) (λ j a b. o j (omega arith) b)
      ∙ byte_out m (at i) (size i) (new i) (omega arith) (sized i (omega arith)) y (o i (omega arith) (omega arith))

  one_step : (m : List ℕ) (i : ℕ) → fold laying m i 1 ≡ laying m i
  unfolding fold
  one_step m i = refl

  pub puts_has : (i x : ℕ) → i < n → x < size i → (m : List ℕ) → length m ≡ bytes
      → ((j : ℕ) → j < n → (i ≡ j → ⊥) → (at i + x + 1 ≤ at j) ⊎ (at j + size j ≤ at i + x))
      → byte (fold laying m 0 n) (at i + x) ≡ byte (new i) x
  puts_has i x l k m e o =
      let z : n ≡ i + (1 + (n - (i + 1))) = omega arith in
      let y : 0 + i ≡ i = omega arith in
      let sofar = fold laying m 0 i in
      let known : length sofar ≡ bytes = puts_length 0 i (omega arith) m e in
      let r = room i l in
      ap (λ (q : ℕ). byte (fold laying m 0 q) (at i + x)) z
      ∙ ap (λ (q : List ℕ). byte q (at i + x)) (fold_add laying m 0 i (1 + (n - (i + 1))) ∙ ap (λ (q : ℕ). fold laying sofar q (1 + (n - (i + 1)))) y ∙ fold_add laying sofar i 1 (n - (i + 1)))
      ∙ later (at i + x) (i + 1) (n - (i + 1)) (omega arith) (fold laying sofar i 1) (puts_length i 1 (omega arith) sofar known) (λ j a b. o j b (λ q. omega arith))
      ∙ ap (λ (q : List ℕ). byte q (at i + x)) (one_step sofar i)
      ∙ byte_in sofar (at i) (size i) (new i) (omega arith) (sized i l) x k
