-- Zeros where no search is kept; else its number, and what is kept.
use Rattle.drive_bytes.specs.Layout.{search_bytes}
use Rattle.drive_bytes.proofs.lay.put_search.Goals as goal

pub returns-in-Nothing : goal.returns-in-Nothing
unfolding search_bytes
returns-in-Nothing c = rw (c.in-Nothing.is, c.fill.ensures.after (λ y h. h), c.requires)

pub returns-in-Pattern : goal.returns-in-Pattern
unfolding search_bytes
returns-in-Pattern c = rw c.in-Pattern.is c.put_kept.ensures

pub returns-in-Everything : goal.returns-in-Everything
unfolding search_bytes
returns-in-Everything c = rw c.in-Everything.is c.put_kept-in-Everything.ensures
