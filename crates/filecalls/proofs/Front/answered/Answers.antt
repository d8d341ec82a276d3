-- The answer by what refuses.
use mathlib.Core.Path.{sym, ◌∙◌}
use Prim.Native.Nat.{ℕ}
use mathlib.Core.List.{List}
use Rattle.filecalls.proofs.Front.answered.Goals as goal

pub returns-then-is_none : goal.returns-then-is_none
returns-then-is_none c = λ (held : List ℕ). c.done.ensures held ∙ rw (sym c.is_none.ensures ∙ c.if-is_none.true)

pub returns : goal.returns
returns c = λ (held : List ℕ). c.refused.ensures held ∙ rw (sym c.is_none.ensures ∙ c.if-is_none.false)
