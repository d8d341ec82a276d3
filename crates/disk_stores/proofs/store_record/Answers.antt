-- None is left, or the record is stored where it begins.
use mathlib.Core.Path.{◌≡◌}
use Prim.Native.Nat.{◌+◌, ◌-◌}
use native.Mathlib.Omega.{arith}
use Rattle.lists.specs.Bytes.{put}
use Rattle.disk_stores.proofs.CodeLaws.{spent, one_store}
use borrow.Author.Rules.{rules}
use Rattle.disk_stores.proofs.store_record.Goals as goal

pub returns-then-left-eq0 : goal.returns-then-left-eq0
returns-then-left-eq0 c =
    let a = c.args in
    record {
      volume_after = spent a.g a.volume.now _ a.left.now c.if-left-eq0.true;
      left_after = omega (arith, c.if-left-eq0.true);
    }

pub returns : goal.returns
unfolding put
returns c =
    let a = c.args in
    let at = c.start-at in
    let z : at.result + 128 - at.result ≡ 128 = omega arith in
    let stored = one_store a.g a.volume.now a.q a.sector.now a.left.now c.if-left-eq0.false in
    record {
      volume_after = rw (c.copy_from_slice.ensures.after, z, at.ensures.0) stored;
      left_after = search rules;
    }
