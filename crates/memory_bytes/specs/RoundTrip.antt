-- The bytes carry table and control block from call to call. Proved in `proofs/RoundTripHolds`.
use Rattle.std.specs.Prelude.{◌≡◌, List, ℕ, ◌≤◌, ◌<◌, length, get_or}
use Rattle.numbers.specs.Numbers.{Bytes}
use Rattle.memory_spans.specs.declared.Span.{Span}
use Rattle.memory_spans.specs.Span.{places, paragraphs, none}
use Rattle.memory_regions.specs.Places.{padded}
use Rattle.memory_calls.specs.declared.Table.{Table}
use Rattle.memory_calls.specs.declared.Mcb.{Mcb}
use Rattle.memory_calls.specs.Table.{pieces_of, regions_of}
use Rattle.memory_bytes.specs.TableBytes.{table_bytes, table_of, mcb_of, table_laid, mcb_laid}

-- what 66 bytes can carry: eight places each, of which so many are used, each a start and a length of 16 bits, and nothing behind them
pub record Short (s : Span) : Type 0 where
  pub start : s.start < paragraphs
  pub length : s.length < paragraphs

pub record Carried (t : Table) : Type 0 where
  pub few_pieces : t.used ≤ places
  pub few_regions : t.granted ≤ places
  pub piece : (i : ℕ) → Short (get_or (pieces_of t) i none)
  pub region : (i : ℕ) → Short (get_or (regions_of t) i none)
  pub pieces_end : t.pieces ≡ padded places (pieces_of t)
  pub regions_end : t.regions ≡ padded places (regions_of t)

-- reading what was laid gives the table again
abbrev pub LaidIsRead : Type 0
LaidIsRead = (t : Table) → Carried t → table_of (table_laid t) ≡ t

-- laying what was read gives the bytes again: every 66 bytes that are laid so
abbrev pub ReadIsLaid : Type 0
ReadIsLaid = (b : List ℕ) → Bytes b → length b ≡ table_bytes → Carried (table_of b) → table_laid (table_of b) ≡ b

-- a control block that was laid is read again
abbrev pub McbIsRead : Type 0
McbIsRead = (m : Mcb) → m.base < paragraphs → m.length < paragraphs → mcb_of (mcb_laid m) ≡ m
