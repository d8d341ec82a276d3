-- Each write stores as its method promises; no read comes here.
use mathlib.Core.Path.{sym, ap, ◌∙◌}
use mathlib.Core.Bool.{true, false, false≢true}
use Rattle.call_served.specs.declared.Transfer.{Transfer}
use Rattle.filecalls.specs.Write.{write_sequential_act, write_direct_act, write_random_act, write_zero_fill_act}
use Rattle.filecalls.specs.CodeFront.{joined}
use Rattle.bdos.specs.Step.{carries}
use Rattle.bdos.specs.Stores.{transfer_stores}
use Rattle.bdos.specs.CodeWay.{way_moved, changes}
use Rattle.bdos.proofs.DoorLaws.{own_stores}
use Rattle.bdos.proofs.write.Goals as goal

pub returns-in-WriteSequential : goal.returns-in-WriteSequential
unfolding transfer_stores carries write_random_act write_zero_fill_act
returns-in-WriteSequential c = λ h.
    let a = c.args in
    let d = joined a.front a.held.now in
    rw c.in-WriteSequential.is (own_stores d a.volume.now a.fcb.now a.buffer.now a.left.now (write_sequential_act d a.volume.now a.fcb.now a.buffer.now) c.write_sequential_most.ensures)

pub returns-in-WriteRandom : goal.returns-in-WriteRandom
unfolding transfer_stores carries write_random_act write_zero_fill_act
returns-in-WriteRandom c = λ h.
    let a = c.args in
    let d = joined a.front a.held.now in
    rw c.in-WriteRandom.is (own_stores d a.volume.now a.fcb.now a.buffer.now a.left.now (write_direct_act false d a.volume.now a.fcb.now a.buffer.now) c.write_direct_most.ensures)

pub returns-in-WriteZeroFill : goal.returns-in-WriteZeroFill
unfolding transfer_stores carries write_random_act write_zero_fill_act
returns-in-WriteZeroFill c = λ h.
    let a = c.args in
    let d = joined a.front a.held.now in
    rw c.in-WriteZeroFill.is (own_stores d a.volume.now a.fcb.now a.buffer.now a.left.now (write_direct_act true d a.volume.now a.fcb.now a.buffer.now) c.write_direct_most-in-WriteZeroFill.ensures)

pub returns-in-WriteSeveral : goal.returns-in-WriteSeveral
unfolding transfer_stores carries write_random_act write_zero_fill_act
returns-in-WriteSeveral c = λ h. rw c.in-WriteSeveral.is c.write_most.ensures

pub returns-in-ReadSequential : goal.returns-in-ReadSequential
unfolding transfer_stores carries write_random_act write_zero_fill_act
returns-in-ReadSequential c = λ h. absurd (false≢true (ap (λ (k : Transfer). changes (way_moved k)) (sym c.in-ReadSequential.is) ∙ h))

pub returns-in-ReadRandom : goal.returns-in-ReadRandom
unfolding transfer_stores carries write_random_act write_zero_fill_act
returns-in-ReadRandom c = λ h. absurd (false≢true (ap (λ (k : Transfer). changes (way_moved k)) (sym c.in-ReadRandom.is) ∙ h))

pub returns-in-ReadSeveral : goal.returns-in-ReadSeveral
unfolding transfer_stores carries write_random_act write_zero_fill_act
returns-in-ReadSeveral c = λ h. absurd (false≢true (ap (λ (k : Transfer). changes (way_moved k)) (sym c.in-ReadSeveral.is) ∙ h))
