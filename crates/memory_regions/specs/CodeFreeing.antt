-- Which region the code frees a part of; not for the reader of the paper.
use Rattle.std.specs.Prelude.{List, ℕ, get_or, length}
use Rattle.lists.specs.Bounded.{lowest}
use Rattle.memory_spans.specs.declared.Span.{Span}
use Rattle.memory_spans.specs.Span.{none}
use Rattle.memory_regions.specs.Freeing.{edge}

-- the place of the first region of which the part is the start or the end, their number where there is none
unfoldable pub first_edge : Span → List Span → ℕ
first_edge part l = lowest (length l) (λ i. edge part (get_or l i none))
