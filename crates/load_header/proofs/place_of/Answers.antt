-- No group passed so far has the type, so what is still to be searched gives the whole.
use Rattle.load_header.proofs.HeaderLaws.{place_is}
use Rattle.lists.proofs.BoundedLaws.{searched_next, searched_hit, searched_none}
use borrow.Author.Tests.{eq-eqb, ne_eqb}
use native.Mathlib.Omega.{arith}
use mathlib.Core.Path.{◌≡◌, sym, ◌∙◌}
use borrow.Author.Rules.{rules}
use Rattle.load_header.proofs.place_of.Goals as goal

pub returns-then-type_at-kind : goal.returns-then-type_at-kind
returns-then-type_at-kind c =
    (place_is _ _ c.groups-n.ensures.0 (searched_hit c.loop-i.invariant (search rules) (eq-eqb _ _ (sym c.type_at.ensures.0 ∙ c.if-type_at-kind.true))), search rules)

pub loop-i-preserved : goal.loop-i-preserved
loop-i-preserved c = searched_next c.loop-i.invariant (search rules) (ne_eqb _ _ (λ q. c.if-type_at-kind.false (c.type_at.ensures.0 ∙ q)))

pub returns : goal.returns
returns c = let z : c.groups-n.result ≡ c.loop-i.i = omega arith in (z ∙ place_is _ _ c.groups-n.ensures.0 (searched_none c.loop-i.invariant (search rules)), search rules)
