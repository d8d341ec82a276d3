-- The length is asked first.
use Rattle.drive_bytes.specs.Layout.{is_drive}
use Rattle.drive_bytes.proofs.is_drive.Goals as goal

pub returns-then-not-has_length : goal.returns-then-not-has_length
unfolding is_drive
returns-then-not-has_length c = rw (← c.has_length.ensures, c.if-not-has_length.true)

pub returns : goal.returns
unfolding is_drive
returns c = rw (← c.has_length.ensures, c.if-not-has_length.false) c.is_laid.ensures
