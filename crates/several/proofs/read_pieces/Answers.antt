-- What is still to be read from piece i on gives the whole; a refused read ends it.
use mathlib.Core.Bool.{not}
use Rattle.std.proofs.Common.{◌≡◌, arith, ◌∙◌, sym, ap, List, ℕ}
use borrow.Author.Tests.{not-true, not-false}
use Rattle.several.proofs.PieceLaws.{left_start, left_next, left_stop, left_end}
use Rattle.filecalls.proofs.JoinLaws.{reply_left}
use Rattle.several.proofs.read_pieces.Goals as goal

pub loop-i-init : goal.loop-i-init
loop-i-init c = λ (held : List ℕ). left_start _ _ _ _ _ _

pub returns-then-not-succeeded : goal.returns-then-not-succeeded
returns-then-not-succeeded c = λ (held : List ℕ).
    reply_left (c.ended.ensures held)
    (rw c.why_of.ensures (sym (left_stop (c.loop-i.invariant held) c.loop-i-test.true (c.read_piece-reply.ensures held) (sym c.succeeded.ensures ∙ not-true c.succeeded.result (ap not c.if-not-succeeded.true)))))

pub loop-i-preserved : goal.loop-i-preserved
loop-i-preserved c = λ (held : List ℕ).
    left_next (c.loop-i.invariant held) c.loop-i-test.true (c.read_piece-reply.ensures held) (sym c.succeeded.ensures ∙ not-false c.succeeded.result (ap not c.if-not-succeeded.false))

pub returns : goal.returns
returns c = λ (held : List ℕ).
    let past : c.loop-i.i ≡ c.args.k = omega arith in
    reply_left (c.ended-2.ensures held) (sym (rw past at (left_end (c.loop-i.invariant held) c.loop-i-test.false)))
