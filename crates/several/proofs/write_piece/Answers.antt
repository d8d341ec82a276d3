-- The part that is lent on is piece i.
use mathlib.Core.Path.{◌≡◌}
use Prim.Native.Nat.{◌+◌, ◌*◌, ◌-◌}
use native.Mathlib.Omega.{arith}
use Rattle.lists.specs.Bytes.{part}
use Rattle.several.proofs.write_piece.Goals as goal

pub returns : goal.returns
unfolding part
returns c =
    let a = c.args in
    let z : 128 * a.i + 128 - 128 * a.i ≡ 128 = omega arith in
    rw z at c.write_sequential_most.ensures
