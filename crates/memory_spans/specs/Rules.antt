-- The rules of the table, whose breach is 65: "pieces that overlap or leave the memory, regions that overlap or lie in no one piece".
use Rattle.std.specs.Prelude.{Bool, true, false, cond, ◌&&◌, List, [], ◌∷◌, ℕ, ◌*◌, leb}
use Rattle.memory_spans.specs.declared.Span.{Span}
use Rattle.memory_spans.specs.Span.{paragraph_bytes, paragraphs, end, overlap, lies_in, any_of, all_of}

-- no two of them overlap
unfoldable pub apart : List Span → Bool
apart [] = true
apart (s ∷ l) = let rest = apart l in cond (any_of (overlap s) l) false rest

-- it does not leave the memory of so many bytes, nor end behind the last paragraph that 16 bits can name
abbrev pub in_memory : ℕ → Span → Bool
in_memory bytes piece = leb (end piece) paragraphs && leb (paragraph_bytes * end piece) bytes

-- it lies in one piece
abbrev pub in_one_of : List Span → Span → Bool
in_one_of pieces region = any_of (lies_in region) pieces

unfoldable pub lawful : ℕ → List Span → List Span → Bool
lawful bytes pieces regions = all_of (in_memory bytes) pieces && apart pieces && apart regions && all_of (in_one_of pieces) regions
