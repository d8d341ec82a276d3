-- The digits passed so far are digits, so what is left to be looked at decides.
use Rattle.gencmd_lines.proofs.LineLaws.{short_not_spelled, spelled_by}
use Rattle.lists.proofs.BoundedLaws.{passed_next, passed_fails, passed_all}
use Rattle.gencmd_lines.specs.Digits.{is_digit}
use Rattle.std.proofs.lemmas.List.{get_or-take}
use Rattle.std.proofs.Common.{◌<◌, true, false, ap, sym, ◌∙◌, rules}
use Rattle.gencmd_lines.proofs.line.is_spelled.Goals as goal

pub returns-then-line-n : goal.returns-then-line-n
returns-then-line-n c = sym (short_not_spelled c.args.line.now (search rules))

pub returns-then-not-is_digit : goal.returns-then-not-is_digit
returns-then-not-is_digit c =
    let l = c.loop-c in
    let h : l.c-index < c.digits_in-n.result = search rules in
    let e = ap is_digit (sym (get_or-take _ c.args.line.now l.c-index 0 h)) ∙ sym c.is_digit.ensures ∙ c.if-not-is_digit.true in
    sym (spelled_by c.args.line.now false (search rules) (passed_fails l.invariant (search rules) e))

pub loop-c-preserved : goal.loop-c-preserved
loop-c-preserved c =
    let l = c.loop-c in
    let h : l.c-index < c.digits_in-n.result = search rules in
    let e = ap is_digit (sym (get_or-take _ c.args.line.now l.c-index 0 h)) ∙ sym c.is_digit.ensures ∙ c.if-not-is_digit.false in
    passed_next l.invariant (search rules) e

pub returns : goal.returns
returns c =
    let l = c.loop-c in
    sym (spelled_by c.args.line.now true (search rules) (passed_all l.invariant (search rules)))
