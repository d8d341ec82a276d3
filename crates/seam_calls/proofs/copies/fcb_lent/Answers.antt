-- All of it, or none.
use native.Mathlib.Omega.{arith}
use borrow.Author.Tests.{eq-eqb, ne_eqb}
use Rattle.seam_calls.proofs.copies.fcb_lent.Goals as goal

pub returns-then-n-eq-FCB_BYTES : goal.returns-then-n-eq-FCB_BYTES
returns-then-n-eq-FCB_BYTES c = (rw (eq-eqb c.args.n 36 c.if-n-eq-FCB_BYTES.true), (omega arith, omega (arith, c.if-n-eq-FCB_BYTES.true)))

pub returns : goal.returns
returns c = (rw (ne_eqb c.args.n 36 c.if-n-eq-FCB_BYTES.false), (omega arith, omega arith))
