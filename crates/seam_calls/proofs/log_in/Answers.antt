-- As many bytes as T asks take the state that log-in hands back; a drive of another length is refused.
use mathlib.Core.Path.{ap}
use native.Mathlib.Omega.{arith}
use Rattle.call_answers.specs.Answer.{value_of}
use Rattle.filecalls.specs.declared.Reply.{Reply}
use Rattle.seam_calls.proofs.SeamLaws.{log_in_refused, log_in_done}
use Rattle.seam_words.proofs.ValueLaws.{log_in_value}
use Rattle.seam_calls.proofs.log_in.Goals as goal

pub returns-then-drive-length_for : goal.returns-then-drive-length_for
returns-then-drive-length_for c =
    let a = c.args in
    rw (← c.geometry-g.ensures)
    (log_in_refused _ a.volume.now a.drive.now c.length_for.ensures c.if-drive-length_for.true (c.seal.ensures.1 (omega arith)))

pub returns : goal.returns
returns c =
    let a = c.args in
    rw (← c.geometry-g.ensures)
    (log_in_done _ a.volume.now a.drive.now c.length_for.ensures c.if-drive-length_for.false c.log_in-reply.ensures c.encode.ensures (c.seal-2.ensures.1 (rw (ap (λ (r : Reply). value_of r.answer) c.log_in-reply.ensures) (log_in_value _ _))))
