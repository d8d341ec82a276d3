-- The numbers, then what was lent, one after the other.
use Rattle.replay_transcript.specs.Lines.{call_line}
use Rattle.text.proofs.WriterLaws.{then}
use Rattle.replay_transcript.proofs.lines.put_call.Goals as goal

pub returns : goal.returns
unfolding call_line
returns c =
    then (then (then (then (then
    c.put_numbers.ensures
    c.byte.ensures)
    (rw c.lends_fcb.ensures at c.put_shown.ensures))
    c.byte-2.ensures)
    (rw c.lends_buffer.ensures at c.put_shown-2.ensures))
    c.byte-3.ensures
