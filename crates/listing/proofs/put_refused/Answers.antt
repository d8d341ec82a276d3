-- Two runs of bytes, one after the other.
use mathlib.Core.Path.{◌∙◌}
use Rattle.call_answers.specs.Answer.{number_of}
use Rattle.text.proofs.WriterLaws.{then, number}
use Rattle.listing.proofs.put_refused.Goals as goal

pub returns : goal.returns
returns c = then c.bytes.ensures (number (number_of c.args.answer) (c.from.ensures ∙ c.number.ensures) c.decimal.ensures)
