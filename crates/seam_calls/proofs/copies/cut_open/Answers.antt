-- What is not lent on makes no difference; the stores made are those that were there to be made, and 528 at most.
use mathlib.Core.Path.{◌≡◌}
use Prim.Native.Nat.{◌-◌}
use native.Mathlib.Omega.{arith}
use Rattle.seam_calls.proofs.CutLaws.{made_most, lent_open, cut_told}
use borrow.Author.Rules.{rules}
use Rattle.seam_calls.proofs.copies.cut_open.Goals as goal

pub cut_with-refusal-requires : goal.cut_with-refusal-requires
cut_with-refusal-requires c =
    record {
      drive_value = c.requires;
      fcb_copy_len = search rules;
      buffer_copy_len = search rules;
    }

pub overflow_cast-made : goal.overflow_cast-made
overflow_cast-made c = omega (arith, made_most c.cut_with-refusal.ensures)

pub returns : goal.returns
returns c =
    let a = c.args in
    let n = c.fcb_lent-n in
    let m = c.buffer_lent-m in
    let x : n.result - 0 ≡ n.result = omega arith in
    let y : m.result - 0 ≡ m.result = omega arith in
    let lent = rw (x, y, n.ensures.0, m.ensures.0) at c.cut_with-refusal.ensures in
    let cuts = lent_open a.function a.parameter a.fcb.now a.buffer.now lent in
    record {
      volume_after = cuts.volume_is;
      value = rw c.halves.ensures (cut_told cuts);
    }
