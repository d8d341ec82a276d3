-- The memory table in 66 bytes: "number of pieces, number of regions, eight pieces, eight regions, each start and length in paragraphs,
-- 16 bits each"; and the memory control block in five: M-Base, M-Length, M-Ext (000, 5.5.1). Numbers stand low byte first.
use Rattle.std.specs.Prelude.{cond, List, [], ◌∷◌, ◌++◌, ℕ, zero, suc, ◌+◌, eqb, length, get_or}
use Rattle.lists.specs.Bytes.{byte}
use Rattle.joined.specs.Joined.{joined}
use Rattle.numbers.specs.Numbers.{two, bytes_of}
use Rattle.memory_spans.specs.declared.Span.{Span}
use Rattle.memory_spans.specs.Span.{places, span, none}
use Rattle.memory_calls.specs.declared.Table.{Table}
use Rattle.memory_calls.specs.declared.Mcb.{Mcb}
use Rattle.memory_calls.specs.Table.{pieces_of, regions_of}

abbrev pub table_bytes : ℕ
table_bytes = 66

abbrev pub mcb_bytes : ℕ
mcb_bytes = 5

-- where the pieces begin, and the regions; how many bytes one has
abbrev pub PIECES : ℕ
PIECES = 2

abbrev pub REGIONS : ℕ
REGIONS = 34

abbrev pub span_bytes : ℕ
span_bytes = 4

-- ---- from bytes
abbrev pub span_at : List ℕ → ℕ → Span
span_at b a = span (two b a) (two b (a + 2))

-- the k spans from byte a on
unfoldable pub spans_at : List ℕ → ℕ → ℕ → List Span
spans_at b a zero = []
spans_at b a (suc k) = span_at b a ∷ spans_at b (a + span_bytes) k

-- "A table of another length, or with a number above 8, is 65": a number stays as it is, and other bytes than 66 count as more pieces
-- than there are places, so that neither is within the rules
unfoldable pub used_in : List ℕ → ℕ
used_in b = cond (eqb (length b) table_bytes) (byte b 0) (places + 1)

unfoldable pub table_of : List ℕ → Table
table_of b = record { pieces = spans_at b PIECES places; used = used_in b; regions = spans_at b REGIONS places; granted = byte b 1 }

abbrev pub mcb_of : List ℕ → Mcb
mcb_of b = record { base = two b 0; length = two b 2; ext = byte b 4 }

-- ---- to bytes
unfoldable pub span_laid : Span → List ℕ
span_laid s = bytes_of 2 s.start ++ bytes_of 2 s.length

-- eight places: the spans, and behind them zeros
unfoldable pub spans_laid : List Span → List ℕ
spans_laid l = joined (λ i. span_laid (get_or l i none)) 0 places

-- "Behind the numbers' ends zeros are written with each change"
unfoldable pub table_laid : Table → List ℕ
table_laid t = (t.used ∷ t.granted ∷ []) ++ (spans_laid (pieces_of t) ++ spans_laid (regions_of t))

unfoldable pub mcb_laid : Mcb → List ℕ
mcb_laid m = bytes_of 2 m.base ++ (bytes_of 2 m.length ++ (m.ext ∷ []))
