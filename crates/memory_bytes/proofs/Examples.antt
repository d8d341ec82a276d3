-- Bytes read, laid and handed to calls, worked out by hand: a table with one piece, 180H paragraphs from 100H on, and one region, 10H from
-- 110H on. In the places behind them each byte is AAH. The memory has 280H paragraphs.
use mathlib.Core.Path.{◌≡◌, refl}
use mathlib.Core.List.{List, [], ◌∷◌, ◌++◌}
use Prim.Native.Nat.{ℕ}
use lib.ListN.{replicate, take}
use Rattle.joined.specs.Joined.{joined}
use Rattle.numbers.specs.Numbers.{bytes_of}
use Rattle.memory_spans.specs.declared.Span.{Span}
use Rattle.memory_spans.specs.Span.{span, covers, overlap, lies_in, any_of, all_of, most_of}
use Rattle.memory_spans.specs.Rules.{apart, lawful}
use Rattle.memory_spans.specs.Room.{taken, free_in, run, room, has_room}
use Rattle.memory_regions.specs.Places.{padded}
use Rattle.memory_calls.specs.declared.Mcb.{Mcb}
use Rattle.memory_calls.specs.Table.{within_rules}
use Rattle.memory_calls.specs.Calls.{tested, granted_at, serve, memory_call}
use Rattle.memory_bytes.specs.TableBytes.{spans_at, used_in, table_of, mcb_of, span_laid, spans_laid, table_laid, mcb_laid}
use Rattle.memory_bytes.specs.Over.{over, written_back, memory_over}

-- the table's bytes: so many regions, their bytes, and what stands in each byte behind pieces and regions
abbrev bytes : ℕ → List ℕ → ℕ → ℕ → List ℕ
bytes granted regions left behind = 1 ∷ granted ∷ 0 ∷ 0x01 ∷ 0x80 ∷ 0x01 ∷ (replicate 28 behind ++ regions ++ replicate left behind)

abbrev region : List ℕ
region = 0x10 ∷ 0x01 ∷ 0x10 ∷ 0 ∷ []

abbrev given : List ℕ
given = bytes 1 region 28 0xAA

abbrev unused : List Span
unused = replicate 7 (span 0xAAAA 0xAAAA)

-- ---- read and laid
table_read : table_of given ≡ record { pieces = span 0x100 0x180 ∷ unused; used = 1; regions = span 0x110 0x10 ∷ unused; granted = 1 }
unfolding table_of spans_at used_in
table_read = refl

-- a byte less, and a byte more: nine pieces, which no table has
byte_less : (table_of (take 65 given)).used ≡ 9
unfolding table_of used_in
byte_less = refl

byte_more : (table_of (given ++ (0 ∷ []))).used ≡ 9
unfolding table_of used_in
byte_more = refl

-- laid again the table has zeros behind its ends
table_laid_lem : table_laid (table_of given) ≡ bytes 1 region 28 0
unfolding table_of spans_at used_in table_laid spans_laid span_laid joined bytes_of
table_laid_lem = refl

abbrev mcb : Mcb
mcb = record { base = 0x1234; length = 0x5678; ext = 0xFF }

mcb_read : mcb_of (0x34 ∷ 0x12 ∷ 0x78 ∷ 0x56 ∷ 0xFF ∷ []) ≡ mcb
mcb_read = refl

mcb_laid_lem : mcb_laid mcb ≡ 0x34 ∷ 0x12 ∷ 0x78 ∷ 0x56 ∷ 0xFF ∷ []
unfolding mcb_laid bytes_of
mcb_laid_lem = refl

-- ---- calls over bytes
-- 8 paragraphs at 120H, straight behind the region, with M-Ext 9; and what a success leaves of it
abbrev asked : List ℕ
asked = 0x20 ∷ 0x01 ∷ 0x08 ∷ 0 ∷ 9 ∷ []

abbrev done : List ℕ
done = 0x20 ∷ 0x01 ∷ 0x08 ∷ 0 ∷ 0 ∷ []

-- 56: the table is written anew, with zeros behind its ends
granted_bytes : memory_over 56 asked given 0x2800 ≡ over 0 done (bytes 2 (region ++ (0x20 ∷ 0x01 ∷ 0x08 ∷ 0 ∷ [])) 24 0)
unfolding memory_over written_back memory_call serve granted_at has_room room run free_in taken covers most_of padded within_rules lawful apart overlap lies_in any_of all_of table_of spans_at used_in table_laid spans_laid span_laid joined bytes_of mcb_laid
granted_bytes = refl

-- 54: the control block alone is written
tested_bytes : memory_over 54 asked given 0x2800 ≡ over 0 done given
unfolding memory_over written_back memory_call serve tested has_room room run free_in taken covers most_of within_rules lawful apart overlap lies_in any_of all_of table_of spans_at used_in bytes_of mcb_laid
tested_bytes = refl

-- 58 looks at no control block, and writes none: here it has four bytes
freed_bytes : memory_over 58 (take 4 asked) given 0x2800 ≡ over 0 (take 4 asked) (bytes 0 [] 32 0)
unfolding memory_over written_back memory_call serve padded within_rules lawful apart overlap lies_in any_of all_of table_of spans_at used_in table_laid spans_laid span_laid joined bytes_of
freed_bytes = refl

-- ---- refused, and all bytes as they were
abbrev Refuses : ℕ → ℕ → List ℕ → List ℕ → Type 0
Refuses number f m t = memory_over f m t 0x2800 ≡ over number m t

-- 31 before 34: functions 52 and 59, and a control block of four bytes
no_52 : Refuses 31 52 (take 4 asked) given
unfolding memory_over written_back memory_call
no_52 = refl

no_59 : Refuses 31 59 (take 4 asked) given
unfolding memory_over written_back memory_call
no_59 = refl

-- 34 before 65: a control block of four bytes, or of six, and a table of 65
four_bytes : Refuses 34 53 (take 4 asked) (take 65 given)
unfolding memory_over
four_bytes = refl

six_bytes : Refuses 34 57 (asked ++ (0 ∷ [])) (take 65 given)
unfolding memory_over
six_bytes = refl

-- 65: a table of 65 bytes, or of 67; nine regions; and then 62, over the region's last paragraph
short_table : Refuses 65 54 asked (take 65 given)
unfolding memory_over written_back memory_call within_rules table_of used_in
short_table = refl

long_table : Refuses 65 58 asked (given ++ (0 ∷ []))
unfolding memory_over written_back memory_call within_rules table_of used_in
long_table = refl

nine_regions : Refuses 65 54 asked (bytes 9 region 28 0xAA)
unfolding memory_over written_back memory_call within_rules table_of spans_at used_in
nine_regions = refl

no_room : Refuses 62 54 (0x1F ∷ 0x01 ∷ 0x08 ∷ 0 ∷ 9 ∷ []) given
unfolding memory_over written_back memory_call serve tested has_room room run free_in taken covers most_of within_rules lawful apart overlap lies_in any_of all_of table_of spans_at used_in
no_room = refl
