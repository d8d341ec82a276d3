-- The place behind the line, or the text's end where the line is short.
use Rattle.gencmd_lines.proofs.LinesLaws.{next_line_by}
use Rattle.std.proofs.Common.{◌∙◌, rules}
use Rattle.gencmd_lines.proofs.walk.next_line.Goals as goal

pub returns-then-text-from : goal.returns-then-text-from
returns-then-text-from c =
    let a = c.args in
    c.next_colon.ensures ∙ next_line_by a.text.now a.at c.digits_in-n.result _ c.digits_in-n.ensures.0 (search rules)

pub returns : goal.returns
returns c =
    let a = c.args in
    c.next_colon-2.ensures ∙ next_line_by a.text.now a.at c.digits_in-n.result _ c.digits_in-n.ensures.0 (search rules)
