-- Free paragraphs, and the room at a start: "Within one piece", and "0 paragraphs have no room".
use Rattle.std.specs.Prelude.{Bool, cond, not, ◌&&◌, List, ℕ, zero, suc, leb, eqb}
use Rattle.memory_spans.specs.declared.Span.{Span}
use Rattle.memory_spans.specs.Span.{covers, any_of, most_of}

-- paragraph p is granted
unfoldable pub taken : List Span → ℕ → Bool
taken regions p = any_of (λ r. covers r p) regions

-- paragraph p lies in the piece and in no region
unfoldable pub free_in : Span → List Span → ℕ → Bool
free_in piece regions p = covers piece p && not (taken regions p)

-- paragraph p is free: it lies in a piece and in no region
unfoldable pub free : List Span → List Span → ℕ → Bool
free pieces regions p = any_of (λ piece. covers piece p) pieces && not (taken regions p)

-- how many of the k numbers from i on pass, up to the first that does not
unfoldable pub run : (ℕ → Bool) → ℕ → ℕ → ℕ
run p i zero = 0
run p i (suc k) = let rest = run p (suc i) k in cond (p i) (suc rest) 0

-- the room at a start: how many paragraphs from it on are free within one piece
unfoldable pub room : List Span → List Span → ℕ → ℕ
room pieces regions start = most_of (λ piece. run (free_in piece regions) start piece.length) pieces

-- there is room for k paragraphs at that start; "0 paragraphs have no room"
unfoldable pub has_room : List Span → List Span → ℕ → ℕ → Bool
has_room pieces regions k start = not (eqb k 0) && leb k (room pieces regions start)
