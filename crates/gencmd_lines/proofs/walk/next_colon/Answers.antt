-- A search: what is still to be looked at gives the whole.
use Rattle.gencmd_lines.specs.CodeWalk.{next_colon}
use Rattle.lists.proofs.BoundedLaws.{searched_next, searched_hit, searched_none}
use Rattle.std.proofs.Common.{◌≡◌, sym, ◌∙◌, arith, rules, eq-eqb, ne_eqb}
use Rattle.gencmd_lines.proofs.walk.next_colon.Goals as goal

pub returns-then-text-i-eq58 : goal.returns-then-text-i-eq58
unfolding next_colon
returns-then-text-i-eq58 c = sym (searched_hit c.loop-i.invariant.1 (search rules) (eq-eqb _ _ c.if-text-i-eq58.true))

pub loop-i-preserved : goal.loop-i-preserved
loop-i-preserved c = (omega arith, searched_next c.loop-i.invariant.1 (search rules) (ne_eqb _ _ c.if-text-i-eq58.false))

pub returns : goal.returns
unfolding next_colon
returns c =
    let z : c.max.result ≡ c.loop-i.i = omega arith in
    z ∙ sym (searched_none c.loop-i.invariant.1 (search rules))
