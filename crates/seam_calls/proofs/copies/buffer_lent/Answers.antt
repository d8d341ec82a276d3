-- All of it, or none.
use native.Mathlib.Omega.{arith}
use borrow.Author.Tests.{le-leb, lt-leb}
use Rattle.seam_calls.proofs.copies.buffer_lent.Goals as goal

pub returns-then-n-le-BUFFER_BYTES : goal.returns-then-n-le-BUFFER_BYTES
returns-then-n-le-BUFFER_BYTES c = (rw (le-leb c.args.n 2048 c.if-n-le-BUFFER_BYTES.true), (omega arith, omega (arith, c.if-n-le-BUFFER_BYTES.true)))

pub returns : goal.returns
returns c = (rw (lt-leb c.args.n 2048 c.if-n-le-BUFFER_BYTES.false), (omega arith, omega arith))
