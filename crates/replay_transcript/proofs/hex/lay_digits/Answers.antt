-- The digits of the bytes passed so far stand in a row.
use mathlib.Core.Path.{◌≡◌, refl}
use native.Mathlib.Omega.{arith}
use lib.ListN.{length}
use lib.Seq.{take_all}
use Rattle.replay_transcript.specs.Hex.{hex}
use Rattle.replay_transcript.proofs.HexLaws.{laid_more}
use Rattle.replay_transcript.proofs.hex.lay_digits.Goals as goal

pub loop-i-init : goal.loop-i-init
unfolding hex
loop-i-init c = refl

pub loop-i-preserved : goal.loop-i-preserved
loop-i-preserved c =
    laid_more c.args.s.now c.loop-i.digits c.loop-i.i c.digit.result c.digit-in-loop-i.result c.loop-i-test.true (omega (arith, c.requires, c.loop-i.auto.digits)) c.loop-i.invariant c.digit.ensures c.digit-in-loop-i.ensures

pub returns : goal.returns
returns c =
    let e : c.loop-i.i ≡ length c.args.s.now = omega (arith, c.loop-i-test.false, c.loop-i.auto.i-end) in
    record { laid = rw (e, take_all (length c.args.s.now) c.args.s.now (omega arith)) at c.loop-i.invariant }
