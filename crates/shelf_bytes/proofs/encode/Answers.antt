-- The figures of the places passed so far are laid.
use mathlib.Core.Path.{◌≡◌}
use Prim.Native.Nat.{◌+◌, ◌-◌, ◌*◌}
use native.Mathlib.Omega.{arith}
use Rattle.lists.specs.Bytes.{put}
use Rattle.shelf_bytes.specs.Layout.{encoded}
use Rattle.shelf_bytes.proofs.LayoutLaws.{laid_start, laid_next, laid_end}
use borrow.Author.Rules.{rules}
use Rattle.shelf_bytes.proofs.encode.Goals as goal

pub loop-k-init : goal.loop-k-init
loop-k-init c = laid_start (search rules)

pub loop-k-preserved : goal.loop-k-preserved
unfolding put
loop-k-preserved c =
    let l = c.loop-k in
    let z : 8 * l.k + 8 - 8 * l.k ≡ 8 = omega arith in
    rw (z, c.put_eight.ensures) (laid_next l.invariant (omega arith))

pub returns : goal.returns
unfolding encoded
returns c = laid_end c.loop-k.invariant (omega arith)
