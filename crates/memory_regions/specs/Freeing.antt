-- "Freed room is granted again": which part of a region may be freed, and what is left; 64 is "a free of 0 paragraphs or of anything
-- but one region's start or end".
use Rattle.std.specs.Prelude.{Bool, cond, not, ◌&&◌, ◌||◌, List, [], ◌∷◌, ◌++◌, ◌-◌, eqb}
use Rattle.memory_spans.specs.declared.Span.{Span}
use Rattle.memory_spans.specs.Span.{span, end, lies_in, any_of}

-- the part is the region's end, or its start; or both, and so all of it
unfoldable pub edge : Span → Span → Bool
edge part region = lies_in part region && (eqb (end part) (end region) || eqb part.start region.start)

-- there is such a region
unfoldable pub freeable : Span → List Span → Bool
freeable part regions = not (eqb part.length 0) && any_of (edge part) regions

-- what is left of the region: nothing, what is behind the part, or what is before it
unfoldable pub left : Span → Span → List Span
left part region =
    cond
    (eqb part.length region.length)
    []
    (cond
    (eqb part.start region.start)
    (span (end part) (region.length - part.length) ∷ [])
    (span region.start (region.length - part.length) ∷ []))

-- the regions after the free: "a partly freed region keeps its place; freed places close up"
unfoldable pub freed : Span → List Span → List Span
freed part [] = []
freed part (r ∷ l) = let rest = freed part l in cond (edge part r) (left part r ++ l) (r ∷ rest)
