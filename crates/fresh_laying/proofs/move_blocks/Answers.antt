-- The blocks of the places passed so far are moved.
use Prim.Native.Nat.{◌≤◌}
use native.Mathlib.Omega.{arith}
use Rattle.disk_geometry.specs.Geometry.{places}
use Rattle.fresh_laying.proofs.MoveLaws.{moved_none, moved_next, moved_number, moved_all, moved_entry}
use Rattle.fresh_laying.proofs.move_blocks.Goals as goal

pub loop-p-init : goal.loop-p-init
loop-p-init c = let a = c.args in moved_none a.g a.first.now a.e.now a.b a.second.now a.new.now

pub loop-p-preserved : goal.loop-p-preserved
loop-p-preserved c =
    let a = c.args in
    let l = c.loop-p in
    let o = c.move_place-next in
    moved_next a.g a.first.now a.e.now a.b a.second.now a.new.now l.second l.new l.next l.p l.invariant
    (omega (arith, c.loop-p-test.true, c.places-p-end.ensures.0)) o.new.second o.new.new o.result
    o.auto.second o.auto.new o.ensures.value o.ensures.second_after o.ensures.after

pub returns : goal.returns
returns c =
    let a = c.args in
    let l = c.loop-p in
    let end : places a.g ≤ l.p = omega (arith, c.loop-p-test.false, c.places-p-end.ensures.0) in
    record {
      value = moved_number a.g a.first.now a.e.now a.b a.second.now a.new.now l.second l.new l.next l.p l.invariant end;
      second_after = moved_all a.g a.first.now a.e.now a.b a.second.now a.new.now l.second l.new l.next l.p l.invariant end;
      after = moved_entry a.g a.first.now a.e.now a.b a.second.now a.new.now l.second l.new l.next l.p l.invariant end;
    }
