-- Where there is room, and what is granted there: "granted at its base if that is not 0, else at the lowest start with room, as large
-- as that start allows, up to most", and "the longest free run, lowest of equals".
use Rattle.std.specs.Prelude.{Option, Some, None, cond, ◌&&◌, List, ℕ, zero, suc, max, min, ltb, eqb}
use Rattle.lists.specs.Bounded.{low_from}
use Rattle.memory_spans.specs.declared.Span.{Span}
use Rattle.memory_spans.specs.Span.{paragraphs, span}
use Rattle.memory_spans.specs.Room.{room, has_room}

-- "the lowest start with room" for k paragraphs; one that 16 bits can't name where there is none
unfoldable pub lowest_start : List Span → List Span → ℕ → ℕ
lowest_start pieces regions k = low_from (has_room pieces regions k) 0 paragraphs

-- the largest figure of the k numbers from i on
unfoldable pub most_from : (ℕ → ℕ) → ℕ → ℕ → ℕ
most_from f i zero = 0
most_from f i (suc k) = max (f i) (most_from f (suc i) k)

-- "the longest free run": the most room that any start has; its own start, "lowest of equals", is the lowest start with that room
unfoldable pub longest : List Span → List Span → ℕ
longest pieces regions = most_from (room pieces regions) 0 paragraphs

-- what a group that needs so many paragraphs is granted at that start: "as large as that start allows, up to most"; "a smaller most
-- counts as" need
unfoldable pub grant_at : List Span → List Span → ℕ → ℕ → ℕ → Option Span
grant_at pieces regions start need most =
    cond
    (ltb start paragraphs && has_room pieces regions need start)
    (Some (span start (min (max most need) (room pieces regions start))))
    None

-- "at its base if that is not 0, else at the lowest start with room"
unfoldable pub grant_of : List Span → List Span → ℕ → ℕ → ℕ → Option Span
grant_of pieces regions base need most = grant_at pieces regions (cond (eqb base 0) (lowest_start pieces regions need) base) need most
