-- The memory table: "up to eight physical pieces and eight granted regions, in paragraphs of 16 bytes".
use Rattle.std.specs.Prelude.{Bool, ◌&&◌, List, ℕ, leb, take}
use Rattle.memory_spans.specs.declared.Span.{Span}
use Rattle.memory_spans.specs.Span.{places}
use Rattle.memory_spans.specs.Rules.{lawful}
use Rattle.memory_regions.specs.declared.Regions.{Regions}
use Rattle.memory_regions.specs.Places.{places_of}
use Rattle.memory_calls.specs.declared.Table.{Table}

-- the pieces and the regions in use
abbrev pub pieces_of : Table → List Span
pieces_of t = take t.used t.pieces

abbrev pub regions_of : Table → List Span
regions_of t = take t.granted t.regions

-- the table with other regions; behind them zeros
abbrev pub with_places : Table → Regions → Table
with_places t r = record { pieces = t.pieces; used = t.used; regions = r.list; granted = r.count }

abbrev pub with_regions : Table → List Span → Table
with_regions t l = with_places t (places_of l)

-- the table is within the rules in a memory of so many bytes: else 65
unfoldable pub within_rules : ℕ → Table → Bool
within_rules bytes t = leb t.used places && leb t.granted places && lawful bytes (pieces_of t) (regions_of t)
