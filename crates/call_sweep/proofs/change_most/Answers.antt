-- The records that hold a meant entry are stored up to here as long as a store was left, so what is still to be done with what is
-- left gives the whole.
use mathlib.Core.Path.{◌∙◌}
use Prim.Native.Nat.{◌+◌, ◌*◌, ◌/◌, ◌<◌}
use native.Mathlib.Omega.{arith}
use borrow.Author.Rules.{rules}
use Rattle.disk_geometry.specs.Geometry.{slots}
use Rattle.disk_volume.specs.Name.{strip}
use Rattle.disk_volume.proofs.FindLaws.{find_le, from_low}
use Rattle.disk_stores.proofs.LoopLaws.{swept_first, swept_next, swept_end}
use Rattle.call_sweep.specs.CodeEdit.{meant, edited}
use Rattle.call_sweep.proofs.EditLaws.{edited_length}
use Rattle.call_sweep.proofs.change_most.Goals as goal

pub loop-i-init : goal.loop-i-init
loop-i-init c =
    let a = c.args in
    let p = strip a.name.now in (
      rw c.requires.first_value (find_le a.g a.volume.now a.user p (meant a.edit)),
      (
        search rules,
        swept_first a.g c.requires.volume.0 a.user p (meant a.edit) (edited a.edit a.new.now) (edited_length a.edit a.new.now c.requires.name.1) c.requires.volume.1 a.first c.requires.first_value,
      ),
    )

pub loop-i-smaller : goal.loop-i-smaller
loop-i-smaller c =
    let a = c.args in
    let i = c.loop-i.i in
    let v = c.change_record.new.volume in
    let low = from_low a.g v a.user (strip a.name.now) (meant a.edit) (4 * (i / 4 + 1)) (omega arith) in
    omega (arith, c.next_meant-i.ensures.0)

pub loop-i-preserved : goal.loop-i-preserved
loop-i-preserved c =
    let inside : c.loop-i.i < slots c.args.g = omega arith in
    let a = c.args in
    let l = c.loop-i in
    let o = c.change_record in
    let r = c.next_meant-i in
    let size = o.auto.volume ∙ l.invariant.1.0 in (
      r.ensures.1,
      (
        size,
        swept_next a.g c.requires.volume.0 a.user (strip a.name.now) (meant a.edit) (edited a.edit a.new.now) (edited_length a.edit a.new.now c.requires.name.1)
            l.volume l.invariant.1.0 l.i inside l.invariant.1.1 o.ensures.volume_after o.ensures.left_after size r.ensures.0 r.ensures.1,
      ),
    )

pub returns : goal.returns
returns c =
    let a = c.args in
    let o =
    swept_end a.g c.requires.volume.0 a.user (strip a.name.now) (meant a.edit) (edited a.edit a.new.now) (edited_length a.edit a.new.now c.requires.name.1)
    c.loop-i.invariant.1.1 (omega arith) c.loop-i.invariant.0 in
    record { volume_after = o.0; left_after = o.1 }
