-- 32 bytes take the fault that log-in's answer tells of; any other number of bytes is refused.
use mathlib.Core.Path.{ap}
use Rattle.disk_geometry.specs.Geometry.{geometry_of, with_placing}
use Rattle.call_answers.specs.Answer.{value_of}
use Rattle.filecalls.specs.declared.Reply.{Reply}
use Rattle.seam_words.proofs.ValueLaws.{log_in_value}
use Rattle.seam_looks.proofs.FaultLaws.{fault_refused, fault_done}
use native.Mathlib.Omega.{arith}
use borrow.Author.Rules.{rules}
use Rattle.seam_looks.proofs.fault.Goals as goal

pub returns-then-fault-ne-FAULT_BYTES : goal.returns-then-fault-ne-FAULT_BYTES
returns-then-fault-ne-FAULT_BYTES c =
    let a = c.args in
    fault_refused (with_placing (geometry_of a.block_bytes a.blocks a.directory_blocks) a.placing) a.volume.now a.fault.now c.if-fault-ne-FAULT_BYTES.true (c.seal.ensures.1 (omega arith))

pub put_fault_for-requires : goal.put_fault_for-requires
put_fault_for-requires c = (search rules, ap (λ (r : Reply). r.answer) c.log_in-reply.ensures)

pub returns : goal.returns
returns c =
    let a = c.args in
    rw (← c.geometry-g.ensures)
    (fault_done _ a.volume.now a.fault.now c.if-fault-ne-FAULT_BYTES.false c.log_in-reply.ensures c.put_fault_for.ensures (c.seal-2.ensures.1 (rw (ap (λ (r : Reply). value_of r.answer) c.log_in-reply.ensures) (log_in_value _ _))))
