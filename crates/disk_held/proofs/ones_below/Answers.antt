-- `disk_held::ones_below` meets its contract: a remainder by 2 ^ k keeps the k lowest bits, and a word has no more than 64.
use mathlib.Core.Path.{◌≡◌, refl}
use Prim.Native.Nat.{◌<◌, ◌^◌, min}
use native.Mathlib.Nat.{mod-eq_of_lt}
use native.Mathlib.Omega.{arith}
use lib.Count.{ones-le}
use lib.Pow.{pow_pos}
use Rattle.disk_held.proofs.Bits.{one_shifted, ones_low_le}
use Rattle.disk_held.proofs.ones_below.Goals as goal

pub nonzero_rem-result : goal.nonzero_rem-result
nonzero_rem-result c = rw (one_shifted c.args.k (omega arith)) (pow_pos c.args.k)

pub overflow_cast-result : goal.overflow_cast-result
overflow_cast-result c = rw (one_shifted c.args.k (omega arith)) (omega (arith, ones_low_le c.args.word c.args.k))

pub overflow_cast-result-else-k-lt-BITS : goal.overflow_cast-result-else-k-lt-BITS
overflow_cast-result-else-k-lt-BITS c = omega (arith, ones-le 64 c.args.word (omega arith))

pub returns-then-k-lt-BITS : goal.returns-then-k-lt-BITS
returns-then-k-lt-BITS c =
    let k = c.args.k in
    let e : min k 64 ≡ k = omega arith in
    rw (one_shifted k (omega arith), e) (refl, omega (arith, ones_low_le c.args.word k))

pub returns-else-k-lt-BITS : goal.returns-else-k-lt-BITS
returns-else-k-lt-BITS c =
    let w = c.args.word in
    let e : min c.args.k 64 ≡ 64 = omega arith in
    let h : w < 2 ^ 64 = omega arith in
    rw (e, mod-eq_of_lt h) (refl, ones-le 64 w h)
