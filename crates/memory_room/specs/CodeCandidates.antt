-- The paragraphs that the code looks at: those where a piece begins, and those straight behind a region. That no other start needs a
-- look is shown in proofs/. Not for the reader of the paper.
use Rattle.std.specs.Prelude.{Bool, cond, ◌&&◌, List, ℕ, ltb, eqb}
use Rattle.memory_spans.specs.declared.Span.{Span}
use Rattle.memory_spans.specs.Span.{paragraphs, any_of}
use Rattle.memory_spans.specs.Room.{room}

-- s is the paragraph that `of` names of one of them, and passes
unfoldable pub at_one : (Span → ℕ) → List Span → (ℕ → Bool) → ℕ → Bool
at_one of l p s = any_of (λ x. eqb (of x) s) l && p s

-- the room at a paragraph that 16 bits can name
unfoldable pub room_below : List Span → List Span → ℕ → ℕ
room_below pieces regions s = cond (ltb s paragraphs) (room pieces regions s) 0
