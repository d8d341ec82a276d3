-- Byte by byte they are the definition's.
use mathlib.Core.Path.{◌≡◌, ◌∙◌}
use mathlib.Core.List.{[], ◌∷◌}
use Prim.Native.Nat.{ℕ, ◌/◌, ◌%◌}
use native.Mathlib.Omega.{arith}
use Rattle.numbers.specs.Numbers.{bytes_of}
use Rattle.seam_looks.proofs.bad_slot.two_bytes.Goals as goal

low_bytes : (x : ℕ) → x % 65536 % 256 ∷ x % 65536 / 256 % 256 ∷ [] ≡ x % 256 ∷ x / 256 % 256 ∷ []
low_bytes x =
    let low : x % 65536 % 256 ≡ x % 256 = omega arith in
    let high : x % 65536 / 256 % 256 ≡ x / 256 % 256 = omega arith in
    rw (low, high)

pub returns : goal.returns
unfolding bytes_of
returns c = c.to_le_bytes.ensures ∙ low_bytes c.args.x
