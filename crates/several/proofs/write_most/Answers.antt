-- The tests of what is lent refuse, or leave the records to the single writes.
use mathlib.Core.Bool.{not}
use mathlib.Core.Path.{ap}
use Rattle.filecalls.specs.Leaves.{write_sequential_leaves}
use Rattle.several.proofs.SeveralLent.{lent_pieces}
use Rattle.several.proofs.SeveralLaws.{code_passed}
use Rattle.several.proofs.SeveralCutLaws.{several_cut_refused, several_cut_passed}
use mathlib.Core.List.{[]}
use Rattle.filecalls.specs.CodeFront.{joined}
use Rattle.several.proofs.write_most.Goals as goal

pub returns-then-not-is_none : goal.returns-then-not-is_none
returns-then-not-is_none c =
    let a = c.args in
    several_cut_refused (joined a.front a.held.now) a.volume.now a.fcb.now a.buffer.now a.k a.left.now (c.several_why-why.ensures a.held.now) c.is_none.ensures (ap not c.if-not-is_none.true) (c.ended.ensures a.held.now)

pub write_pieces-requires : goal.write_pieces-requires
write_pieces-requires c =
    let a = c.args in
    let d = joined a.front [] in
    rw c.from.ensures
    (lent_pieces d a.volume.now a.fcb.now a.buffer.now a.k
    (code_passed write_sequential_leaves d a.volume.now a.fcb.now a.buffer.now a.k (c.several_why-why.ensures []) c.is_none.ensures (ap not c.if-not-is_none.false))).buffer

pub returns : goal.returns
returns c =
    let a = c.args in
    let d = joined a.front a.held.now in
    several_cut_passed d a.volume.now a.fcb.now a.buffer.now a.k a.left.now
    (code_passed write_sequential_leaves d a.volume.now a.fcb.now a.buffer.now a.k (c.several_why-why.ensures d.held) c.is_none.ensures (ap not c.if-not-is_none.false))
    (rw c.from.ensures at c.write_pieces.ensures)
