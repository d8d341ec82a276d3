-- Kind, user and last slot, and the twelve bytes copied.
use Rattle.drive_bytes.specs.Layout.{fields}
use Rattle.lists.specs.Bytes.{part}
use Rattle.numbers.proofs.NumberLaws.{number_two}
use native.Mathlib.Omega.{arith}
use Rattle.drive_bytes.proofs.load.search_at.Goals as goal

pub returns : goal.returns
unfolding fields part
returns c =
    let size = c.requires in
    rw (c.kind_stored.ensures, c.two_at.ensures.0, number_two c.args.s.now 10 (omega (arith, size)), c.copy_from_slice.ensures.after)
