-- Each range of digits is one of the definition's cases.
use Rattle.std.proofs.Common.{sym, ◌∙◌, arith}
use Prim.Native.Char.{code}
use Rattle.gencmd_lines.specs.Digits.{digit_of}
use Rattle.gencmd_lines.proofs.LineLaws.{in_range}
use Rattle.gencmd_lines.proofs.digits.digit_of.Goals as goal

pub overflow_sub-result : goal.overflow_sub-result
overflow_sub-result c = (in_range _ _ _ (sym c.is_figure.ensures ∙ c.if-is_figure.true)).0

pub returns-then-is_figure : goal.returns-then-is_figure
unfolding digit_of
returns-then-is_figure c =
    let e = sym c.is_figure.ensures ∙ c.if-is_figure.true in
    let h = in_range (code "0") (code "9") c.args.c e in
    (rw e, omega arith)

pub overflow_sub-result-then-is_letter : goal.overflow_sub-result-then-is_letter
overflow_sub-result-then-is_letter c = (in_range _ _ _ (sym c.is_letter.ensures ∙ c.if-is_letter.true)).0

pub returns-then-is_letter : goal.returns-then-is_letter
unfolding digit_of
returns-then-is_letter c =
    let e = sym c.is_letter.ensures ∙ c.if-is_letter.true in
    let h = in_range (code "A") (code "F") c.args.c e in
    (rw (← c.is_figure.ensures, c.if-is_figure.false, e), omega arith)

pub returns : goal.returns
unfolding digit_of
returns c =
    (rw (← c.is_figure.ensures, c.if-is_figure.false, ← c.is_letter.ensures, c.if-is_letter.false), omega arith)
