-- Holds since the tests of what is lent come first in the ladder, and leave the rest of it to the write at r0 r1.
use mathlib.Core.Bool.{not}
use mathlib.Core.Path.{ap}
use mathlib.Core.List.{List, []}
use Prim.Native.Nat.{ℕ}
use Rattle.filecalls.specs.CodeFront.{joined}
use Rattle.filecalls.proofs.LentLaws.{Random, random_passed}
use Rattle.filecalls.proofs.RewriteLaws.{rewrite_refused, rewrite_done}
use Rattle.filecalls.proofs.Front.rewrite_random_most.Goals as goal

pub returns-then-not-is_none : goal.returns-then-not-is_none
returns-then-not-is_none c =
    let a = c.args in
    let held = a.held.now in
    rewrite_refused (joined a.self held) a.volume.now a.fcb.now a.low a.high a.left.now
    (c.random_why-why.ensures held) c.is_none.ensures (ap not c.if-not-is_none.true) (c.refused.ensures held)

pub random_of-n-requires : goal.random_of-n-requires
random_of-n-requires c =
    let clear : (held : List ℕ) → (let a = c.args in Random (joined a.self held) a.volume.now a.fcb.now 128) = λ (held : List ℕ). random_passed _ _ _ _ (c.random_why-why.ensures held) c.is_none.ensures (ap not c.if-not-is_none.false) in
    (clear []).lent.fcb

pub write_at-requires : goal.write_at-requires
write_at-requires c =
    let clear : (held : List ℕ) → (let a = c.args in Random (joined a.self held) a.volume.now a.fcb.now 128) = λ (held : List ℕ). random_passed _ _ _ _ (c.random_why-why.ensures held) c.is_none.ensures (ap not c.if-not-is_none.false) in
    record {
      lent = (clear []).lent;
      n_lt_file_records = c.random_of-n.ensures.1;
    }

pub returns : goal.returns
returns c =
    let clear : (held : List ℕ) → (let a = c.args in Random (joined a.self held) a.volume.now a.fcb.now 128) = λ (held : List ℕ). random_passed _ _ _ _ (c.random_why-why.ensures held) c.is_none.ensures (ap not c.if-not-is_none.false) in
    let a = c.args in
    let held = a.held.now in
    rewrite_done (joined a.self held) a.volume.now a.fcb.now a.low a.high a.left.now
    (clear held).none c.random_of-n.ensures.0 c.write_at.ensures
