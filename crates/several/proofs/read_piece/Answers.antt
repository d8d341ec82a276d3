-- The part that is lent on is piece i, and what the single read leaves of it is put back there.
use mathlib.Core.Path.{◌≡◌}
use Prim.Native.Nat.{ℕ, ◌+◌, ◌*◌, ◌-◌}
use native.Mathlib.Omega.{arith}
use Rattle.lists.specs.Bytes.{part, put}
use Rattle.filecalls.specs.Leaves.{read_sequential_leaves}
use Rattle.several.proofs.PieceLaws.{piece_done}
use mathlib.Core.List.{List}
use Rattle.filecalls.specs.CodeFront.{joined}
use Rattle.several.proofs.read_piece.Goals as goal

pub returns : goal.returns
unfolding part put
returns c = λ (held : List ℕ).
    let a = c.args in
    let z : 128 * a.i + 128 - 128 * a.i ≡ 128 = omega arith in
    rw z (piece_done read_sequential_leaves a.i (joined a.front held) a.volume.now a.fcb.now a.buffer.now (rw z at (c.read_sequential.ensures held)))
