-- What is promised of memory calls and loads, said of the bytes that C lends: `memory_over` is what a memory call leaves of control block
-- and table, `load_at_seam` what a load leaves of table and memory. Proved in proofs/AtSeamHolds and, the last of them, in proofs/AgainHolds.
use Rattle.std.specs.Prelude.{◌≡◌, Bool, List, ◌⊎◌, ℕ, ◌%◌, ◌<◌, length, get_or}
use Rattle.lists.specs.Bytes.{byte}
use Rattle.numbers.specs.Numbers.{Bytes}
use Rattle.memory_spans.specs.declared.Span.{Span}
use Rattle.memory_spans.specs.Span.{none}
use Rattle.memory_spans.specs.Room.{free}
use Rattle.memory_calls.specs.Table.{pieces_of, regions_of}
use Rattle.memory_calls.specs.Calls.{ALLOC_MEM, ALLOC_ABS_MEM, FREE_MEM}
use Rattle.memory_bytes.specs.TableBytes.{table_of}
use Rattle.memory_bytes.specs.Over.{Over, memory_over}
use Rattle.load_promises.specs.Promises.{OutsideOf, new_regions}
use Rattle.seam_memory.specs.Load.{Started, load_at_seam}

-- ---- a refusal alters no byte: the answer's number is not 0
abbrev pub RefusedCallLeavesAll : Type 0
RefusedCallLeavesAll =
    (f bytes : ℕ) (mcb table : List ℕ)
    → ((memory_over f mcb table bytes).number ≡ 0 → ⊥)
    → ((memory_over f mcb table bytes).mcb ≡ mcb) × ((memory_over f mcb table bytes).table ≡ table)

-- the number stands in the low 16 bits
abbrev pub number_in : Started → ℕ
number_in o = o.answer % 65536

abbrev pub RefusedLoadLeavesAll : Type 0
RefusedLoadLeavesAll =
    (s v f table memory : List ℕ)
    → (number_in (load_at_seam s v f table memory) ≡ 0 → ⊥)
    → ((load_at_seam s v f table memory).table ≡ table) × ((load_at_seam s v f table memory).memory ≡ memory)

-- ---- "A load alters no byte outside the regions that it grants": those that the 66 bytes have more afterwards
abbrev pub granted_by : List ℕ → Started → List Span
granted_by table o = new_regions (table_of table) (table_of o.table)

abbrev pub LoadLeavesOthers : Type 0
LoadLeavesOthers =
    (s v f table memory : List ℕ) → Bytes table → (x : ℕ)
    → ((i : ℕ) → i < length (granted_by table (load_at_seam s v f table memory)) → OutsideOf (get_or (granted_by table (load_at_seam s v f table memory)) i none) x)
    → byte (load_at_seam s v f table memory).memory x ≡ byte memory x

-- ---- "Freed room is granted again": after a grant and 57 by the five bytes and the table that it left, the regions and the free
-- paragraphs are what they were; the same request is granted again, and the same region
abbrev pub free_by : List ℕ → ℕ → Bool
free_by table p = free (pieces_of (table_of table)) (regions_of (table_of table)) p

abbrev pub freed_behind : ℕ → ℕ → List ℕ → List ℕ → Over
freed_behind f bytes mcb table = memory_over FREE_MEM (memory_over f mcb table bytes).mcb (memory_over f mcb table bytes).table bytes

pub record Restored (f bytes : ℕ) (mcb table : List ℕ) (o : Over) : Type 0 where
  pub done : o.number ≡ 0
  pub regions : regions_of (table_of o.table) ≡ regions_of (table_of table)
  pub same_free : (p : ℕ) → free_by o.table p ≡ free_by table p
  pub again : (memory_over f mcb o.table bytes).number ≡ 0
  pub same_region : (memory_over f mcb o.table bytes).mcb ≡ (memory_over f mcb table bytes).mcb

abbrev pub GrantThenFreeAtSeam : Type 0
GrantThenFreeAtSeam =
    (f bytes : ℕ) (mcb table : List ℕ)
    → Bytes mcb
    → Bytes table
    → (f ≡ ALLOC_MEM) ⊎ (f ≡ ALLOC_ABS_MEM)
    → (memory_over f mcb table bytes).number ≡ 0
    → Restored f bytes mcb table (freed_behind f bytes mcb table)
