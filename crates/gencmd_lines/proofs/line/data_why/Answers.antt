-- Each return is one rung of the ladder.
use Rattle.std.proofs.Common.{le-ltb, lt-ltb, eq-eqb, ne_eqb}
use Rattle.gencmd_lines.specs.Line.{data_refusal}
use Rattle.gencmd_lines.proofs.line.data_why.Goals as goal

pub returns-then-group_of-eq0 : goal.returns-then-group_of-eq0
unfolding data_refusal
returns-then-group_of-eq0 c = rw (← c.group_of.ensures, eq-eqb _ _ c.if-group_of-eq0.true)

pub returns-then-address_of-count_of-gt-ADDRESSES : goal.returns-then-address_of-count_of-gt-ADDRESSES
unfolding data_refusal
returns-then-address_of-count_of-gt-ADDRESSES c =
    rw (
      ← c.group_of.ensures,
      ne_eqb _ _ c.if-group_of-eq0.false,
      ← c.address_of.ensures.0,
      ← c.count_of.ensures.0,
      lt-ltb _ _ c.if-address_of-count_of-gt-ADDRESSES.true,
    )

pub returns : goal.returns
unfolding data_refusal
returns c =
    rw (
      ← c.group_of.ensures,
      ne_eqb _ _ c.if-group_of-eq0.false,
      ← c.address_of.ensures.0,
      ← c.count_of.ensures.0,
      le-ltb _ _ c.if-address_of-count_of-gt-ADDRESSES.false,
    )
