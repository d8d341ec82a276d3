-- The lengths, then the own list, then the house list.
use Rattle.desk_manuscripts.proofs.WhereLaws.{in_own, in_house, in_neither}
use Rattle.desk_manuscripts.specs.Manuscript.{where_of}
use Rattle.desk_manuscripts.proofs.where_is.Goals as goal

pub returns-then-own-house-clause-value : goal.returns-then-own-house-clause-value
unfolding where_of
returns-then-own-house-clause-value c = rw c.if-own-house.true

pub returns-in-Some-clause-value : goal.returns-in-Some-clause-value
returns-in-Some-clause-value c = in_own _ _ _ c.if-own-house.false c.in-Some.ensures.0 c.in-Some.ensures.1

pub returns-in-Some-line_of-clause-value : goal.returns-in-Some-line_of-clause-value
returns-in-Some-line_of-clause-value c =
    in_house _ _ _ c.if-own-house.false c.in_default.ensures c.in-Some-line_of.ensures.0 c.in-Some-line_of.ensures.1

pub returns-clause-value : goal.returns-clause-value
returns-clause-value c = in_neither _ _ _ c.if-own-house.false c.in_default.ensures c.in_default-line_of.ensures
