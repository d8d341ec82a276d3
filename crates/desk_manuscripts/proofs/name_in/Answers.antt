-- Thirty bytes behind the siglum.
use Rattle.lists.specs.Bytes.{part}
use mathlib.Core.Path.{◌≡◌}
use Prim.Native.Nat.{◌+◌, ◌-◌, ◌*◌}
use native.Mathlib.Omega.{arith}
use Rattle.desk_manuscripts.proofs.name_in.Goals as goal

pub returns : goal.returns
unfolding part
returns c =
    let i = c.args.i in
    let z : i * 32 + 32 - (i * 32 + 2) ≡ 30 = omega arith in
    rw z
