use Rattle.desk_contents.specs.Contents.{chapter_place}
use Rattle.lists.proofs.BoundedLaws.{searched_next, searched_hit, searched_none}
use Rattle.std.proofs.Common.{◌≡◌, sym, ◌∙◌, arith}
use Rattle.desk_contents.proofs.place_of.Goals as goal

pub returns-then-is_chapter : goal.returns-then-is_chapter
unfolding chapter_place
returns-then-is_chapter c =
    (sym (searched_hit c.loop-i.invariant c.loop-i-test.true (sym c.is_chapter.ensures ∙ c.if-is_chapter.true)), c.loop-i-test.true)

pub loop-i-preserved : goal.loop-i-preserved
loop-i-preserved c = searched_next c.loop-i.invariant c.loop-i-test.true (sym c.is_chapter.ensures ∙ c.if-is_chapter.false)

pub returns : goal.returns
unfolding chapter_place
returns c = let past : c.loop-i.i ≡ 16 = omega arith in searched_none c.loop-i.invariant c.loop-i-test.false ∙ past
