-- The records passed so far are laid, so what is still to be laid gives the whole.
use mathlib.Core.Path.{◌≡◌, sym}
use Prim.Native.Nat.{◌+◌, ◌-◌, ◌<◌}
use native.Mathlib.Omega.{arith}
use Rattle.lists.specs.Bytes.{put}
use Rattle.lists.proofs.FoldLaws.{folded_next, folded_end}
use Rattle.disk_geometry.specs.Geometry.{records}
use Rattle.disk_geometry.proofs.GeometryLaws.{bounds}
use Rattle.disk_volume.specs.Record.{put_record}
use Rattle.fresh_volume.specs.Copy.{put_block}
use Rattle.fresh_laying.proofs.MoveLaws.{lent_record, in_block, starts_in_block}
use Rattle.fresh_laying.proofs.copy_block.Goals as goal

pub overflow_add-from : goal.overflow_add-from
overflow_add-from c =
    let a = c.args in
    let p = c.requires in
    let k : c.loop-k.k < records a.g = omega (arith, c.loop-k-test.true, c.records-k-end.ensures) in
    let l = (in_block a.g p.volume_and.0 a.b c.loop-k.k c.record_of-from.result p.b_bound.0 k c.record_of-from.ensures.0).1 in
    omega (arith, bounds a.g p.volume_and.0, l)

pub overflow_add-to : goal.overflow_add-to
overflow_add-to c =
    let a = c.args in
    let p = c.requires in
    let k : c.loop-k.k < records a.g = omega (arith, c.loop-k-test.true, c.records-k-end.ensures) in
    let l = (in_block a.g p.volume_and.0 a.c c.loop-k.k c.record_of-to.result p.b_bound.1 k c.record_of-to.ensures.0).1 in
    omega (arith, bounds a.g p.volume_and.0, l)

pub start-old-requires : goal.start-old-requires
start-old-requires c =
    let a = c.args in
    let p = c.requires in
    let k : c.loop-k.k < records a.g = omega (arith, c.loop-k-test.true, c.records-k-end.ensures) in
    (p.volume_and.0, (in_block a.g p.volume_and.0 a.b c.loop-k.k c.record_of-from.result p.b_bound.0 k c.record_of-from.ensures.0).1)

pub start-new-requires : goal.start-new-requires
start-new-requires c =
    let a = c.args in
    let p = c.requires in
    let k : c.loop-k.k < records a.g = omega (arith, c.loop-k-test.true, c.records-k-end.ensures) in
    (p.volume_and.0, (in_block a.g p.volume_and.0 a.c c.loop-k.k c.record_of-to.result p.b_bound.1 k c.record_of-to.ensures.0).1)

pub loop-k-preserved : goal.loop-k-preserved
unfolding put_record put
loop-k-preserved c =
    let a = c.args in
    let p = c.requires in
    let l = c.loop-k in
    let at = c.start-new.result in
    let k : l.k < records a.g = omega (arith, c.loop-k-test.true, c.records-k-end.ensures) in
    let o = starts_in_block a.g p.volume_and.0 a.b l.k c.record_of-from.result c.start-old.result p.b_bound.0 k c.record_of-from.ensures.0 c.start-old.ensures.0 in
    let n = starts_in_block a.g p.volume_and.0 a.c l.k c.record_of-to.result at p.b_bound.1 k c.record_of-to.ensures.0 c.start-new.ensures.0 in
    let z : at + 128 - at ≡ 128 = omega arith in
    folded_next l.invariant k (rw (c.copy_from_slice.ensures.after, lent_record a.g a.first.now a.b l.k c.start-old.result o, z, n))

pub returns : goal.returns
unfolding put_block
returns c = sym (folded_end c.loop-k.invariant (omega (arith, c.loop-k-test.false, c.records-k-end.ensures)))
