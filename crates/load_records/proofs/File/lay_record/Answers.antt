-- The bytes of the record that are asked for.
use Rattle.lists.specs.Bytes.{part}
use native.Mathlib.Omega.{arith}
use mathlib.Core.List.{[]}
use lib.ListN.{length}
use Prim.Native.Nat.{◌+◌, ◌-◌}
use mathlib.Core.Path.{◌≡◌, ◌∙◌}
use Rattle.load_records.proofs.File.lay_record.Goals as goal

pub returns : goal.returns
unfolding part
returns c =
    let a = c.args in
    let z : a.from + length a.out.now - a.from ≡ length a.out.now = omega arith in
    c.copy_from_slice.ensures.after ∙ rw (z, (c.show.ensures []).1)
