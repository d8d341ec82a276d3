-- The branches are the definition's.
use mathlib.Core.Logic.{◌≢◌}
use native.Mathlib.Omega.{arith}
use Rattle.drive_bytes.specs.Layout.{kind_stored}
use borrow.Author.Tests.{ne_eqb}
use Rattle.drive_bytes.proofs.load.kind_stored.Goals as goal

pub returns-in-0 : goal.returns-in-0
unfolding kind_stored
returns-in-0 c = rw c.in-0.is

pub returns-in-1 : goal.returns-in-1
unfolding kind_stored
returns-in-1 c = rw c.in-1.is

pub returns-in_default : goal.returns-in_default
unfolding kind_stored
returns-in_default c =
    let some : c.args.b ≢ 0 = omega arith in
    let more : c.args.b ≢ 1 = omega arith in
    rw (ne_eqb _ 0 some, ne_eqb _ 1 more)
