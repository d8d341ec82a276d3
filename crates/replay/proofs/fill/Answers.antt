-- What was moved to the front lies before the part that is read into.
use Rattle.replay_script.proofs.WindowLaws.{front_stays}
use Rattle.lists.specs.Bytes.{put}
use lib.ListN.{length}
use native.Mathlib.Omega.{arith}
use Prim.Native.Nat.{◌≤◌, ◌+◌, ◌-◌}
use mathlib.Core.Path.{◌≡◌}
use borrow.Author.Rules.{rules}
use Rattle.replay.proofs.fill.Goals as goal

pub returns : goal.returns
unfolding put
returns g c =
    let a = c.args in
    let w = a.window.now in
    let e = c.shift.new.window in
    let x = c.read_full-got.new.buf in
    let n = a.to - a.from in
    let l : length e ≡ length w = c.shift.auto.window in
    let f : a.from + n ≤ length w = omega (arith, c.requires) in
    let m : length x ≡ length e - n = search rules in
    record {
      from_le_to = search rules;
      from_after = front_stays w e x a.from n f c.shift.ensures l m;
    }
