-- The mask leaves every bit of a byte but its top one.
use mathlib.Core.Path.{ap, sym, ◌∙◌}
use Prim.Native.Nat.{ℕ}
use native.Mathlib.Omega.{arith}
use lib.Bits.{bit_and}
use lib.ListN.{replicate}
use Rattle.numbers.specs.Numbers.{number}
use Rattle.disk_volume.proofs.NameLaws.{strip_number}
use Rattle.disk_volume.proofs.names.stripped.Goals as goal

pub returns : goal.returns
unfolding number
returns c =
    let l = c.args.bytes.now in
    rw c.eight_of.ensures
    (ap (λ (n : ℕ). bit_and (number l) (number (replicate n 127))) (sym c.requires)
    ∙ strip_number l (λ k. omega (arith, c.shared_slice_known-1.given k)))
