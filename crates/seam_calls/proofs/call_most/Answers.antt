-- Bytes that are no drive's are refused; any others go their call's way, and its answer is told.
use mathlib.Core.Path.{sym, ap, ◌∙◌}
use mathlib.Core.Bool.{not}
use Rattle.seam_calls.proofs.SeamLaws.{way_shut, told_most, no_drive}
use Rattle.seam_calls.proofs.call_most.Goals as goal

pub returns-then-not-is_drive : goal.returns-then-not-is_drive
returns-then-not-is_drive c =
    let a = c.args in
    told_most (way_shut a.function a.parameter a.drive.now a.volume.now a.fcb.now a.buffer.now a.left.now (no_drive a.drive.now c.is_drive.ensures (ap not c.if-not-is_drive.true))) c.tell.ensures

pub fields-front-requires : goal.fields-front-requires
fields-front-requires c = sym c.is_drive.ensures ∙ c.if-not-is_drive.false

pub call_of_kind-answer-requires : goal.call_of_kind-answer-requires
call_of_kind-answer-requires c = (sym c.is_drive.ensures ∙ c.if-not-is_drive.false, c.fields-front.ensures)

pub returns : goal.returns
returns c = told_most (c.call_of_kind-answer.ensures c.args.function c.call_of-kind.ensures) c.tell-2.ensures
