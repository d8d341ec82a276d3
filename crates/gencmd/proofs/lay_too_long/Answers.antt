-- The words and the number, one after the other, and they have room.
use native.Mathlib.Omega.{arith}
use borrow.Author.Rules.{rules}
use Rattle.text.proofs.WriterLaws.{then, done}
use Rattle.gencmd.specs.Said.{too_long}
use Rattle.gencmd.proofs.SaidLaws.{too_long_short, whole}
use Rattle.gencmd.proofs.lay_too_long.Goals as goal

pub returns : goal.returns
unfolding too_long
returns c =
    let all = then c.bytes.ensures (then c.decimal.ensures c.bytes-2.ensures) in
    whole too_long c.args.line.now _ _ (omega (arith, too_long_short, c.requires)) (done all c.new-w.ensures.text c.at.ensures (search rules))
