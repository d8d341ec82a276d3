-- No line passed so far has the siglum, so what is still to be searched gives the whole.
use Rattle.desk_manuscripts.specs.Manuscript.{line_of}
use Rattle.lists.proofs.BoundedLaws.{searched_next, searched_hit, searched_none, from_zero}
use Rattle.std.proofs.Common.{◌≡◌, sym, ◌∙◌}
use Rattle.desk_manuscripts.proofs.line_of.Goals as goal

pub returns-then-line_is : goal.returns-then-line_is
unfolding line_of
returns-then-line_is c =
    (sym (searched_hit c.loop-i.invariant c.loop-i-test.true (sym c.line_is.ensures ∙ c.if-line_is.true)) ∙ from_zero _ _, c.loop-i-test.true)

pub loop-i-preserved : goal.loop-i-preserved
loop-i-preserved c = searched_next c.loop-i.invariant c.loop-i-test.true (sym c.line_is.ensures ∙ c.if-line_is.false)

pub returns : goal.returns
unfolding line_of
returns c =
    let e : line_of c.args.list.now c.args.siglum ≡ c.loop-i.i = sym (from_zero _ _) ∙ searched_none c.loop-i.invariant c.loop-i-test.false in
    rw e c.loop-i-test.false
