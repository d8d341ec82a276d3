use Rattle.desk_contents.specs.Contents.{chapter_at, used_place}
use Rattle.desk_contents.proofs.ContentsLaws.{good_used, good_clear}
use borrow.Author.Tests.{eq-eqb, ne_eqb}
use mathlib.Core.Path.{sym, ◌∙◌}
use Rattle.desk_contents.proofs.is_good.Goals as goal

pub returns-then-chapter-eq0 : goal.returns-then-chapter-eq0
returns-then-chapter-eq0 c = c.is_clear.ensures ∙ sym (good_clear _ _ (eq-eqb _ _ (sym c.two_at-chapter.ensures.0 ∙ c.if-chapter-eq0.true)))

pub returns : goal.returns
unfolding used_place
returns c =
    let a = c.args in
    let e = good_used a.s.now a.i (ne_eqb (chapter_at a.s.now a.i) 0 (λ q. c.if-chapter-eq0.false (c.two_at-chapter.ensures.0 ∙ q))) in
    rw (e, c.are_others.ensures, c.two_at-3.ensures.0, c.two_at-2.ensures.0, c.two_at.ensures.0, c.two_at-chapter.ensures.0, c.requires.1.0)
