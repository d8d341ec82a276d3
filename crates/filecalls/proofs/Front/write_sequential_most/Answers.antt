-- Holds since the tests of what is lent come first in the ladder, and leave the rest of it to the write at the position.
use Rattle.filecalls.proofs.LentLaws.{Sequential, sequential_passed, sequential_lent_lem}
use Rattle.filecalls.proofs.OutcomeLaws.{passes}
use Rattle.filecalls.proofs.CutLaws.{cut_refused_at}
use Rattle.filecalls.specs.Write.{write_sequential_act}
use Rattle.filecalls.specs.Read.{sequential_tests}
use Rattle.call_answers.specs.Refusal.{first_met, is_none}
use native.Mathlib.Omega.{arith}
use mathlib.Core.Path.{◌≡◌, sym, ap, ◌∙◌}
use mathlib.Core.Bool.{true, not}
use lib.ListN.{length}
use Prim.Native.Nat.{ℕ}
use mathlib.Core.List.{List, []}
use Rattle.filecalls.specs.CodeFront.{joined}
use Rattle.filecalls.proofs.Front.write_sequential_most.Goals as goal

pub returns-then-not-is_none : goal.returns-then-not-is_none
unfolding write_sequential_act
returns-then-not-is_none c =
    let a = c.args in
    let d = joined a.self a.held.now in
    cut_refused_at d a.volume.now a.fcb.now a.buffer.now a.left.now (sequential_tests d a.volume.now a.fcb.now a.buffer.now) _ _
    (c.sequential_why-why.ensures d.held ∙ ap first_met (sym (sequential_lent_lem d a.volume.now a.fcb.now a.buffer.now))) c.is_none.ensures (ap not c.if-not-is_none.true) (c.refused.ensures d.held)

pub position_of-n-requires : goal.position_of-n-requires
position_of-n-requires c =
    let clear : (held : List ℕ) → Sequential (joined c.args.self held) c.args.volume.now c.args.fcb.now (length c.args.buffer.now) = λ (held : List ℕ). sequential_passed _ _ _ _ (c.sequential_why-why.ensures held) c.is_none.ensures (ap not c.if-not-is_none.false) in
    (clear []).lent.fcb

pub write_at-requires : goal.write_at-requires
write_at-requires c =
    let clear : (held : List ℕ) → Sequential (joined c.args.self held) c.args.volume.now c.args.fcb.now (length c.args.buffer.now) = λ (held : List ℕ). sequential_passed _ _ _ _ (c.sequential_why-why.ensures held) c.is_none.ensures (ap not c.if-not-is_none.false) in
    let s = clear [] in record { lent = s.lent; n_lt_file_records = omega (arith, s.low, c.position_of-n.ensures.0) }

pub returns : goal.returns
unfolding write_sequential_act
returns c =
    let clear : (held : List ℕ) → Sequential (joined c.args.self held) c.args.volume.now c.args.fcb.now (length c.args.buffer.now) = λ (held : List ℕ). sequential_passed _ _ _ _ (c.sequential_why-why.ensures held) c.is_none.ensures (ap not c.if-not-is_none.false) in
    let a = c.args in
    let d = joined a.self a.held.now in
    let s = clear d.held in
    let n : is_none (first_met (sequential_tests d a.volume.now a.fcb.now a.buffer.now)) ≡ true = rw (sequential_lent_lem d a.volume.now a.fcb.now a.buffer.now) s.none in
    rw (passes (sequential_tests d a.volume.now a.fcb.now a.buffer.now) _ _ n, ← c.position_of-n.ensures.0) c.write_at.ensures
