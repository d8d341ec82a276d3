-- `disk_held::lowest_free` meets its contract. The loop has what the search still has to do from b on; every block of a full
-- word is held, so the search may go on behind it.
use mathlib.Core.Path.{sym, ap}
use mathlib.Core.Bool.{not}
use native.Mathlib.Omega.{arith}
use borrow.Author.Rules.{rules}
use Rattle.lists.proofs.BoundedLaws.{searched_start, searched_next, searched_hit, searched_none}
use Rattle.disk_held.specs.Held.{lowest_free}
use Rattle.disk_held.proofs.FreeLaws.{full_word, searched_over}
use Rattle.disk_held.proofs.lowest_free.Goals as goal

pub loop-b-init : goal.loop-b-init
loop-b-init c = (search rules, searched_start)

pub loop-b-preserved-then-held-b : goal.loop-b-preserved-then-held-b
loop-b-preserved-then-held-b c =
    let l = c.loop-b in
    let held = c.args.held.now in
    let over = searched_over l.invariant.1 c.word_end-b.result (omega arith) (omega arith) in
    (omega arith, over (λ m x y. ap not (full_word held l.b c.if-held-b.true m (omega arith))))

pub returns : goal.returns
unfolding lowest_free
returns c =
    let l = c.loop-b in
    (sym (searched_none l.invariant.1 (omega arith)), l.invariant.0)

pub returns-then-not-is_held : goal.returns-then-not-is_held
unfolding lowest_free
returns-then-not-is_held c =
    let l = c.loop-b in
    (sym (searched_hit l.invariant.1 (omega arith) (rw (← c.is_held.ensures) (ap not c.if-not-is_held.true))), omega arith)

pub loop-b-preserved : goal.loop-b-preserved
loop-b-preserved c =
    let l = c.loop-b in
    (omega arith, searched_next l.invariant.1 (omega arith) (rw (← c.is_held.ensures) (ap not c.if-not-is_held.false)))
