-- Outside the rules none is good; within them each arm is the definition's case of the same name.
use mathlib.Core.Path.{sym, ◌∙◌}
use Rattle.filecalls.proofs.SearchLaws.{kept_outside, pattern_within, all_within}
use Rattle.filecalls.proofs.state.is_kept.Goals as goal

pub returns-then-not-user-last : goal.returns-then-not-user-last
returns-then-not-user-last c =
    let a = c.args in sym (kept_outside a.kind a.user a.last a.pattern.now a.n c.requires.0 c.if-not-user-last.true)

pub returns-in-Pattern : goal.returns-in-Pattern
returns-in-Pattern c =
    let a = c.args in c.is_pattern.ensures ∙ sym (pattern_within a.kind a.user a.last a.pattern.now a.n c.in-Pattern.is c.if-not-user-last.false)

pub returns-in-Everything : goal.returns-in-Everything
returns-in-Everything c =
    let a = c.args in sym (all_within a.kind a.user a.last a.pattern.now a.n c.in-Everything.is c.if-not-user-last.false)
