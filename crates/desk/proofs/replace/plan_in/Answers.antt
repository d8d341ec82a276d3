-- The tests of 50 one after another; then the marks are right.
use mathlib.Core.Path.{sym, ◌∙◌}
use mathlib.Core.List.{List}
use Prim.Native.Nat.{ℕ}
use Rattle.desk.proofs.ReplaceLaws.{bad_contents, too_many, no_chapter, not_all, planned_go}
use Rattle.std.proofs.Common.{arith}
use Rattle.desk.proofs.replace.plan_in.Goals as goal

pub returns-then-not-are_good : goal.returns-then-not-are_good
returns-then-not-are_good c = λ (held : List ℕ). (bad_contents _ _ _ _ _ (sym c.are_good.ensures ∙ c.if-not-are_good.true), tt)

pub returns-then-listed-ge-FILE_RECORDS : goal.returns-then-listed-ge-FILE_RECORDS
returns-then-listed-ge-FILE_RECORDS c = λ (held : List ℕ).
    let g = sym c.are_good.ensures ∙ c.if-not-are_good.false in
    (too_many _ _ _ _ _ g (rw (← c.listed-listed.ensures.0) c.if-listed-ge-FILE_RECORDS.true), tt)

pub returns-in_default : goal.returns-in_default
returns-in_default c = λ (held : List ℕ).
    let g = sym c.are_good.ensures ∙ c.if-not-are_good.false in (
      rw (← c.from.ensures) (no_chapter _ _ _ _ _ g (rw (← c.listed-listed.ensures.0) c.if-listed-ge-FILE_RECORDS.false) (omega (arith, c.in_default.ensures))),
      tt,
    )

pub returns-then-not-sift : goal.returns-then-not-sift
returns-then-not-sift c = λ (held : List ℕ).
    let g = sym c.are_good.ensures ∙ c.if-not-are_good.false in
    let unread = sym (c.sift.ensures held).all_read ∙ c.if-not-sift.true in (
      rw (← c.from.ensures)
          (not_all _ _ _ _ _ g (rw (← c.listed-listed.ensures.0) c.if-listed-ge-FILE_RECORDS.false) (rw (← c.in-Some.ensures.0) c.in-Some.ensures.1)
          (rw (← c.listed-listed.ensures.0) unread)),
      tt,
    )

pub returns : goal.returns
returns c = λ (held : List ℕ).
    let g = sym c.are_good.ensures ∙ c.if-not-are_good.false in
    rw (← c.from.ensures)
    (planned_go _ _ _ _ _ _ _ c.requires.0 g c.listed-listed.ensures.0 c.if-listed-ge-FILE_RECORDS.false c.in-Some.ensures.0 c.in-Some.ensures.1
    (c.sift.ensures held) c.if-not-sift.false c.first_at.ensures.0 c.count_at.ensures.0)
