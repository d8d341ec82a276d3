-- A drive has at least 64 bytes, so its T can be read.
use native.Mathlib.Omega.{arith}
use Rattle.numbers.proofs.NumberLaws.{number_two}
use Rattle.drive_bytes.proofs.has_length.Goals as goal

pub returns : goal.returns
returns c = let s = c.args.s.now in rw (c.length_for.ensures, c.two_at.ensures.0, ← number_two s 2 (omega (arith, c.if-s-lt-DRIVE_BYTES.false)))
