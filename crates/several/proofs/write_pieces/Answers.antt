-- What is still to be written from piece i on with the stores that are left gives the whole; a refused write ends it.
use mathlib.Core.Bool.{not}
use Rattle.std.proofs.Common.{◌≡◌, ◌+◌, ◌*◌, ◌≤◌, length, arith, ◌∙◌, sym, ap}
use borrow.Author.Tests.{not-true, not-false}
use Rattle.several.proofs.SinglesCutLaws.{cut_start, cut_next, cut_stop, cut_end}
use Rattle.filecalls.specs.CodeFront.{joined}
use Rattle.several.proofs.write_pieces.Goals as goal

pub loop-i-init : goal.loop-i-init
loop-i-init c = cut_start _ _ _ _ _ _

pub returns-then-not-succeeded : goal.returns-then-not-succeeded
returns-then-not-succeeded c =
    let l = c.loop-i in
    let a = c.args in
    let fits : 128 * l.i + 128 ≤ length a.buffer.now = omega arith in
    cut_stop (joined l.d l.held) l.volume l.fcb a.buffer.now l.left l.i fits c.write_piece-written.ensures l.invariant c.loop-i-test.true
    (sym c.succeeded.ensures ∙ not-true c.succeeded.result (ap not c.if-not-succeeded.true)) (c.ended.ensures _ ∙ rw c.why_of.ensures)

pub loop-i-preserved : goal.loop-i-preserved
loop-i-preserved c =
    let l = c.loop-i in
    let a = c.args in
    let fits : 128 * l.i + 128 ≤ length a.buffer.now = omega arith in
    cut_next (joined l.d l.held) l.volume l.fcb a.buffer.now l.left l.i fits c.write_piece-written.ensures l.invariant c.loop-i-test.true
    (sym c.succeeded.ensures ∙ not-false c.succeeded.result (ap not c.if-not-succeeded.false))

pub returns : goal.returns
returns c =
    let past : c.loop-i.i ≡ c.args.k = omega arith in
    cut_end c.loop-i.invariant c.loop-i-test.false (rw past (c.ended-2.ensures _))
