-- The record changed in a copy and stored.
use mathlib.Core.Path.{◌≡◌, ◌∙◌}
use Prim.Native.Nat.{◌+◌, ◌-◌}
use native.Mathlib.Omega.{arith}
use borrow.Author.Rules.{rules}
use Rattle.lists.specs.Bytes.{part}
use Rattle.disk_geometry.proofs.GeometryLaws.{bounds}
use Rattle.call_sweep.proofs.change_record.Goals as goal

pub start-at-requires : goal.start-at-requires
start-at-requires c = (c.requires.volume_and.0, omega (arith, bounds c.args.g c.requires.volume_and.0))

pub store_record-requires-clause-q_bound : goal.store_record-requires-clause-q_bound
store_record-requires-clause-q_bound c = (omega (arith, bounds c.args.g c.requires.volume_and.0), search rules)

pub returns : goal.returns
unfolding part
returns c =
    let at = c.start-at in
    let z : at.result + 128 - at.result ≡ 128 = omega arith in
    let o = c.store_record in
    record {
      volume_after = o.ensures.volume_after ∙ rw (c.change_four.ensures, c.copy_from_slice.ensures.after, z, at.ensures.0);
      left_after = o.ensures.left_after;
    }
