-- A physical piece or a granted region: its first paragraph and how many paragraphs of 16 bytes it has.
use Rattle.std.specs.Prelude.{Bool, true, false, cond, ◌&&◌, List, [], ◌∷◌, ℕ, ◌+◌, max, min, leb, ltb}
use Rattle.memory_spans.specs.declared.Span.{Span}

-- "up to eight physical pieces and eight granted regions, in paragraphs of 16 bytes"; a paragraph's number has 16 bits
abbrev pub places : ℕ
places = 8

abbrev pub paragraph_bytes : ℕ
paragraph_bytes = 16

abbrev pub paragraphs : ℕ
paragraphs = 65536

abbrev pub span : ℕ → ℕ → Span
span start length = record { start = start; length = length }

-- a place of the table that is not used
abbrev pub none : Span
none = span 0 0

-- the first paragraph behind it
abbrev pub end : Span → ℕ
end s = s.start + s.length

-- paragraph p lies in it
unfoldable pub covers : Span → ℕ → Bool
covers s p = leb s.start p && ltb p (end s)

-- the two overlap: from the later start to the earlier end there is a paragraph
unfoldable pub overlap : Span → Span → Bool
overlap a b = ltb (max a.start b.start) (min (end a) (end b))

-- s lies in outer; an empty one is compared by its ends
unfoldable pub lies_in : Span → Span → Bool
lies_in s outer = leb outer.start s.start && leb (end s) (end outer)

-- one of them passes, each of them passes, the largest figure of them
unfoldable pub any_of : (Span → Bool) → List Span → Bool
any_of p [] = false
any_of p (x ∷ l) = let rest = any_of p l in cond (p x) true rest

unfoldable pub all_of : (Span → Bool) → List Span → Bool
all_of p [] = true
all_of p (x ∷ l) = let rest = all_of p l in cond (p x) rest false

unfoldable pub most_of : (Span → ℕ) → List Span → ℕ
most_of f [] = 0
most_of f (x ∷ l) = max (f x) (most_of f l)
