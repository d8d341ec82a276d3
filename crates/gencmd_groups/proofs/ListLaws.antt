-- A list of so many numbers, by its length and its bytes.
use mathlib.Core.Path.{◌≡◌, refl, sym, ap, ◌∙◌}
use mathlib.Core.List.{List}
use Prim.Native.Nat.{ℕ, zero, suc, ◌+◌, ◌<◌}
use native.Mathlib.Omega.{arith}
use lib.ListN.{length}
use lib.Seq.{ext_get_or}
use Rattle.lists.specs.Bytes.{byte}
use Rattle.gencmd_groups.specs.Groups.{list_from}

pub length_list : (f : ℕ → ℕ) (i k : ℕ) → length (list_from f i k) ≡ k
unfolding list_from
length_list f i zero = refl
length_list f i (suc k) = ap suc (length_list f (suc i) k)

pub byte_list : (f : ℕ → ℕ) (i k a : ℕ) → a < k → byte (list_from f i k) a ≡ f (i + a)
unfolding list_from
byte_list f i zero a h = absurd (omega arith)
byte_list f i (suc k) zero h = let z : i + 0 ≡ i = omega arith in rw z
byte_list f i (suc k) (suc a) h =
    let z : suc i + a ≡ i + suc a = omega arith in
    byte_list f (suc i) k a (omega arith) ∙ ap f z

pub list_is : (f : ℕ → ℕ) (n : ℕ) (l : List ℕ) → length l ≡ n → ((a : ℕ) → a < n → byte l a ≡ f a) → l ≡ list_from f 0 n
list_is f n l e h =
    ext_get_or 0 l (list_from f 0 n) (e ∙ sym (length_list f 0 n))
    (λ a k. let z : 0 + a ≡ a = omega arith in h a (omega arith) ∙ sym (byte_list f 0 n a (omega arith) ∙ ap f z))
