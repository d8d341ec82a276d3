-- The words below k are laid, and what stood behind them is still there.
use mathlib.Core.Path.{◌≡◌}
use Prim.Native.Nat.{◌+◌, ◌*◌, ◌-◌}
use native.Mathlib.Omega.{arith}
use native.Mathlib.Numerals.{add-one}
use Rattle.lists.specs.Bytes.{put}
use Rattle.drive_bytes.proofs.WordLaws.{lay_start, lay_next}
use Rattle.drive_bytes.proofs.lay.words.Goals as goal

pub loop-k-init : goal.loop-k-init
loop-k-init c = lay_start _ _

pub loop-k-preserved : goal.loop-k-preserved
unfolding put
loop-k-preserved c =
    let l = c.loop-k in
    let a = c.args in
    let z : 32 + 8 * l.k + 8 - (32 + 8 * l.k) ≡ 8 = omega arith in
    rw (z, c.put_eight.ensures, l.invariant, add-one l.k) (lay_next a.out.now a.held.now l.k (omega (arith, c.requires.0)))
