-- Three numbers with blanks between them, one after the other.
use Rattle.text.proofs.WriterLaws.{then, number}
use Rattle.call_answers.specs.Answer.{number_of, value_of}
use mathlib.Core.Path.{◌∙◌}
use Rattle.replay_transcript.proofs.lines.put_numbers.Goals as goal

pub returns : goal.returns
returns c =
    let a = c.args in
    then (then (then (then
    (number a.function c.from.ensures c.decimal.ensures)
    c.byte.ensures)
    (number (number_of a.answer) (c.from-2.ensures ∙ c.number.ensures) c.decimal-2.ensures))
    c.byte-2.ensures)
    (number (value_of a.answer) c.value.ensures c.decimal-3.ensures)
