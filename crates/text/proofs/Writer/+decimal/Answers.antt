-- The number divided by ten has its digits before the last one.
use Rattle.text.proofs.WriterLaws.{digits, one_digit}
use Rattle.text.proofs.Writer.+decimal.Goals as goal
use Rattle.text.proofs.Writer.+decimal.Goals.{then-not-one_digit, else-not-one_digit}

pub returns : goal.returns
returns t c = elim c.if-not-one_digit.branch [
  | then-not-one_digit w ↦ digits c.args.n w.if-not-one_digit.true w.self-is w.decimal.ensures c.digit.ensures c.byte.ensures
  | else-not-one_digit w ↦ one_digit c.args.n w.if-not-one_digit.false w.self-is c.digit.ensures c.byte.ensures
]
