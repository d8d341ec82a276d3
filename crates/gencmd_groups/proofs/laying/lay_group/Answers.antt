-- The lines that are still to come, laid over the bytes so far, make each byte what it is to be.
use Rattle.std.proofs.Common.{ℕ, ◌∙◌, length, replicate, refl, sym, ap, arith}
use Rattle.gencmd_lines.specs.Lines.{lines_in}
use Rattle.gencmd_lines.specs.CodeWalk.{left}
use Rattle.gencmd_groups.specs.Groups.{byte_at, group_bytes}
use Rattle.gencmd_groups.proofs.ListLaws.{list_is}
use Rattle.gencmd_groups.proofs.LayingLaws.{laying_start, laying_end, laying_next, laying_over}
use Rattle.gencmd_groups.proofs.laying.lay_group.Goals as goal

pub returns-then-part-eq0 : goal.returns-then-part-eq0
returns-then-part-eq0 c =
    let a = c.args in
    list_is (byte_at (lines_in a.text.now) a.group) (length a.part.now) a.part.now refl (λ k h. absurd (omega arith))

pub loop-line-init : goal.loop-line-init
loop-line-init c =
    laying_start _ _ _ (c.fill.ensures.after (λ y e. e) ∙ ap (λ (n : ℕ). replicate n 0) (sym c.fill.auto.self))
    (ap left c.into_iter-line-iterator.ensures.into_iter_gives ∙ c.new-line-items.ensures)

pub shape_of-part-then-is_end : goal.shape_of-part-then-is_end
shape_of-part-then-is_end c = c.loop-line.invariant.size ∙ c.fill.auto.self

pub returns-then-is_end : goal.returns-then-is_end
returns-then-is_end c =
    let a = c.args in
    laying_end c.loop-line.invariant c.in-Some.ensures.steps (sym c.is_end.ensures ∙ c.if-is_end.true) ∙ ap (λ (n : ℕ). group_bytes (lines_in a.text.now) a.group n) c.fill.auto.self

pub loop-line-preserved : goal.loop-line-preserved
loop-line-preserved c =
    laying_next c.loop-line.invariant c.in-Some.ensures.steps (sym c.is_end.ensures ∙ c.if-is_end.false) c.lay_line.ensures

pub shape_of-part : goal.shape_of-part
shape_of-part c = c.loop-line.invariant.size ∙ c.fill.auto.self

pub returns : goal.returns
returns c =
    let a = c.args in
    laying_over c.loop-line.invariant c.in-None.ensures.steps.0 ∙ ap (λ (n : ℕ). group_bytes (lines_in a.text.now) a.group n) c.fill.auto.self
