-- The tests of what is lent refuse, or leave the records to the single reads.
use mathlib.Core.Bool.{not}
use mathlib.Core.Path.{sym, ◌∙◌, ap}
use Rattle.filecalls.specs.Leaves.{read_sequential_leaves}
use Rattle.several.proofs.SeveralLent.{lent_pieces}
use Rattle.several.proofs.SeveralLaws.{several_passed, code_refused, code_passed}
use Prim.Native.Nat.{ℕ}
use mathlib.Core.List.{List, []}
use Rattle.filecalls.specs.CodeFront.{joined}
use Rattle.several.proofs.read.Goals as goal

pub returns-then-not-is_none : goal.returns-then-not-is_none
returns-then-not-is_none c = λ (held : List ℕ).
    let a = c.args in
    code_refused read_sequential_leaves (joined a.front held) a.volume.now a.fcb.now a.buffer.now a.k (c.several_why-why.ensures held) c.is_none.ensures (ap not c.if-not-is_none.true) (c.ended.ensures held)

pub read_pieces-requires : goal.read_pieces-requires
read_pieces-requires c =
    let a = c.args in
    rw c.from.ensures
    (lent_pieces (joined a.front []) a.volume.now a.fcb.now a.buffer.now a.k
    (code_passed read_sequential_leaves (joined a.front []) a.volume.now a.fcb.now a.buffer.now a.k (c.several_why-why.ensures []) c.is_none.ensures (ap not c.if-not-is_none.false))).buffer

pub returns : goal.returns
returns c = λ (held : List ℕ).
    let a = c.args in
    (rw c.from.ensures at (c.read_pieces.ensures held))
    ∙ sym (several_passed read_sequential_leaves (joined a.front held) a.volume.now a.fcb.now a.buffer.now a.k
    (code_passed read_sequential_leaves (joined a.front held) a.volume.now a.fcb.now a.buffer.now a.k (c.several_why-why.ensures held) c.is_none.ensures (ap not c.if-not-is_none.false)))
