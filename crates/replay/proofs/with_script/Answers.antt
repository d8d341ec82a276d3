-- A good header's volume has room in the arrays.
use native.Mathlib.Omega.{arith}
use Rattle.replay.proofs.with_script.Goals as goal

pub with_header-requires : goal.with_header-requires
with_header-requires c =
    let w = rw c.in-Some.is at c.header_of.ensures.at_most in
    (omega (arith, w, c.requires), c.requires.1)
