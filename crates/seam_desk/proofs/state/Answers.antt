-- The test decides between the fields and the closed state, as in the definition.
use mathlib.Core.Bool.{not}
use mathlib.Core.Path.{ap}
use Rattle.drive_bytes.specs.Layout.{decoded}
use Rattle.seam_desk.proofs.SiglaLaws.{state_is}
use Rattle.seam_desk.proofs.state.Goals as goal

pub returns-then-not-is_drive : goal.returns-then-not-is_drive
unfolding decoded
returns-then-not-is_drive c = rw (← c.is_drive.ensures, c.if-not-is_drive.true) c.closed.ensures

pub returns : goal.returns
returns c =
    state_is c.args.drive.now c.is_drive.ensures (ap not c.if-not-is_drive.false) c.fields-front.ensures c.load_words.ensures
