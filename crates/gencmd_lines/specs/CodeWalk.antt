-- Where a walk over a text stands: on a colon, or at the text's end.
use Rattle.std.specs.Prelude.{ℕ, ◌+◌, ◌-◌, min, Bool, Option, Some, None, List, length, drop, ◌==◌}
use Rattle.lists.specs.Bytes.{byte}
use Rattle.lists.specs.Bounded.{low_from}
use Rattle.gencmd_lines.specs.declared.walk.Lines.{Lines}
use Rattle.gencmd_lines.specs.Line.{Line, data_most, digits_in}
use Rattle.gencmd_lines.specs.Lines.{colon, lines_from}

-- the most bytes that a line has
abbrev pub most_bytes : ℕ
most_bytes = 5 + data_most

abbrev pub is_colon : List ℕ → ℕ → Bool
is_colon text i = byte text i == colon

-- where the next colon stands, from a place on; the text's end where there is none
unfoldable pub next_colon : List ℕ → ℕ → ℕ
next_colon text from = low_from (is_colon text) from (length text - from)

-- where the next line's colon stands, behind the line whose colon stands at a place
unfoldable pub next_line : List ℕ → ℕ → ℕ
next_line text at = next_colon text (min (at + 1 + digits_in (drop (at + 1) text)) (length text))

-- the lines from place p on
abbrev pub lines_at : List ℕ → ℕ → List Line
lines_at t p = lines_from 0 (drop p t)

-- the place behind the line that was taken last, the text's start where none was
abbrev pub behind : List ℕ → Option ℕ → ℕ
behind text None = 0
behind text (Some at) = min (at + 1 + digits_in (drop (at + 1) text)) (length text)

-- those that are still to come
abbrev pub left : Lines → List Line
left w = lines_at w.text.now (behind w.text.now w.at)
