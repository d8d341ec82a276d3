-- The test decides between the fields and the closed state, as in the definition.
use mathlib.Core.Path.{ap, ◌∙◌}
use Rattle.filecalls.specs.CodeFront.{front_of}
use Rattle.drive_bytes.specs.Layout.{decoded}
use Rattle.drive_bytes.proofs.front.Goals as goal

pub returns-then-not-is_drive : goal.returns-then-not-is_drive
unfolding decoded
returns-then-not-is_drive c = rw (← c.is_drive.ensures, c.if-not-is_drive.true) (c.front.ensures ∙ ap front_of c.closed.ensures)

pub returns : goal.returns
unfolding decoded
returns c = rw (← c.is_drive.ensures, c.if-not-is_drive.false) c.fields.ensures
