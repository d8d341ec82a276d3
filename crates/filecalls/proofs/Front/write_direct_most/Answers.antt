-- Holds since the tests of what is lent come first in the ladder, and leave the rest of it to the write at r0 r1.
use Rattle.filecalls.proofs.LentLaws.{Random, random_passed, random_lent_lem}
use Rattle.filecalls.proofs.OutcomeLaws.{passes}
use Rattle.filecalls.proofs.CutLaws.{cut_refused_at}
use Rattle.filecalls.specs.Read.{random_tests}
use Rattle.call_answers.specs.Refusal.{first_met, is_none}
use mathlib.Core.Path.{◌≡◌, sym, ap, ◌∙◌}
use mathlib.Core.Bool.{true, not}
use lib.ListN.{length}
use Prim.Native.Nat.{ℕ}
use mathlib.Core.List.{List, []}
use Rattle.filecalls.specs.CodeFront.{joined}
use Rattle.filecalls.proofs.Front.write_direct_most.Goals as goal

pub returns-then-not-is_none : goal.returns-then-not-is_none
returns-then-not-is_none c =
    let a = c.args in
    let d = joined a.self a.held.now in
    cut_refused_at d a.volume.now a.fcb.now a.buffer.now a.left.now (random_tests d a.volume.now a.fcb.now a.buffer.now) _ _
    (c.random_why-why.ensures d.held ∙ ap first_met (sym (random_lent_lem d a.volume.now a.fcb.now a.buffer.now))) c.is_none.ensures (ap not c.if-not-is_none.true) (c.refused.ensures d.held)

pub random_of-n-requires : goal.random_of-n-requires
random_of-n-requires c =
    let clear : (held : List ℕ) → Random (joined c.args.self held) c.args.volume.now c.args.fcb.now (length c.args.buffer.now) = λ (held : List ℕ). random_passed _ _ _ _ (c.random_why-why.ensures held) c.is_none.ensures (ap not c.if-not-is_none.false) in
    (clear []).lent.fcb

pub write_at-requires : goal.write_at-requires
write_at-requires c =
    let clear : (held : List ℕ) → Random (joined c.args.self held) c.args.volume.now c.args.fcb.now (length c.args.buffer.now) = λ (held : List ℕ). random_passed _ _ _ _ (c.random_why-why.ensures held) c.is_none.ensures (ap not c.if-not-is_none.false) in
    record {
      lent = (clear []).lent;
      n_lt_file_records = c.random_of-n.ensures.1;
    }

pub returns : goal.returns
returns c =
    let clear : (held : List ℕ) → Random (joined c.args.self held) c.args.volume.now c.args.fcb.now (length c.args.buffer.now) = λ (held : List ℕ). random_passed _ _ _ _ (c.random_why-why.ensures held) c.is_none.ensures (ap not c.if-not-is_none.false) in
    let a = c.args in
    let d = joined a.self a.held.now in
    let s = clear d.held in
    let n : is_none (first_met (random_tests d a.volume.now a.fcb.now a.buffer.now)) ≡ true = rw (random_lent_lem d a.volume.now a.fcb.now a.buffer.now) s.none in
    rw (passes (random_tests d a.volume.now a.fcb.now a.buffer.now) _ _ n, ← c.random_of-n.ensures.0) c.write_at.ensures
