-- The word, the number and the line feed, one after the other, and they have room.
use mathlib.Core.Path.{◌∙◌}
use native.Mathlib.Omega.{arith}
use borrow.Author.Rules.{rules}
use Rattle.text.proofs.WriterLaws.{then, number, done}
use Rattle.gencmd_lines.specs.Refusal.{refusal_number}
use Rattle.gencmd.specs.Said.{refused}
use Rattle.gencmd.proofs.SaidLaws.{refused_short, whole}
use Rattle.gencmd.proofs.lay_refusal.Goals as goal

pub returns : goal.returns
unfolding refused
returns c =
    let is = c.from.ensures ∙ c.number_of.ensures in
    let all = then c.bytes.ensures (then (number (refusal_number c.args.why) is c.decimal.ensures) c.byte.ensures) in
    whole (refused c.args.why) c.args.line.now _ _ (omega (arith, refused_short c.args.why, c.requires)) (done all c.new-w.ensures.text c.at.ensures (search rules))
