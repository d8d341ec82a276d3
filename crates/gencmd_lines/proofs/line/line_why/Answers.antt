-- Each return is one rung of the ladder.
use Rattle.std.proofs.Common.{eq-eqb, ne_eqb}
use Rattle.gencmd_lines.specs.Line.{line_refusal}
use Rattle.gencmd_lines.proofs.line.line_why.Goals as goal

pub returns-then-not-is_spelled : goal.returns-then-not-is_spelled
unfolding line_refusal
returns-then-not-is_spelled c = rw (← c.is_spelled.ensures, c.if-not-is_spelled.true)

pub returns-then-sum_of-ne0 : goal.returns-then-sum_of-ne0
unfolding line_refusal
returns-then-sum_of-ne0 c =
    rw (
      ← c.is_spelled.ensures,
      c.if-not-is_spelled.false,
      ← c.sum_of.ensures,
      ne_eqb _ _ c.if-sum_of-ne0.true,
    )

pub returns-then-is_end : goal.returns-then-is_end
unfolding line_refusal
returns-then-is_end c =
    rw (
      ← c.is_spelled.ensures,
      c.if-not-is_spelled.false,
      ← c.sum_of.ensures,
      eq-eqb _ _ c.if-sum_of-ne0.false,
      ← c.is_end.ensures,
      c.if-is_end.true,
    )

pub returns : goal.returns
unfolding line_refusal
returns c =
    rw (
      ← c.is_spelled.ensures,
      c.if-not-is_spelled.false,
      ← c.sum_of.ensures,
      eq-eqb _ _ c.if-sum_of-ne0.false,
      ← c.is_end.ensures,
      c.if-is_end.false,
      c.data_why.ensures,
    )
