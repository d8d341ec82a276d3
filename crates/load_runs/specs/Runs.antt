-- Any run of memory calls and loads, as C makes them: each is lent the bytes of table and memory that the one before it left. Where these
-- 66 bytes are a table within the rules, they stay one: no paragraph belongs to two regions, every region lies in one piece, and the
-- memory keeps its length. What a call at the seam leaves is `memory_over`, a load `load_at_seam`. Proved in proofs/RunsHold.
use Rattle.std.specs.Prelude.{◌≡◌, true, List, [], ◌∷◌, ℕ, length}
use Rattle.numbers.specs.Numbers.{Bytes}
use Rattle.memory_calls.specs.Table.{within_rules}
use Rattle.memory_promises.specs.Promises.{Kept}
use Rattle.memory_bytes.specs.TableBytes.{table_of}
use Rattle.memory_bytes.specs.Over.{memory_over}
use Rattle.seam_memory.specs.Load.{load_at_seam}

-- a memory call by its number and the bytes of its control block, or a load by the bytes of drive, volume and control block
pub data Request : Type 0 where
  call : ℕ → (mcb : List ℕ) → Bytes mcb → Request
  loading : List ℕ → List ℕ → List ℕ → Request

pub record Lent : Type 0 where
  pub table : List ℕ
  pub memory : List ℕ

unfoldable pub next : Lent → Request → Lent
next s (call f mcb b) = record { table = (memory_over f mcb s.table (length s.memory)).table; memory = s.memory }
next s (loading d v f) = record { table = (load_at_seam d v f s.table s.memory).table; memory = (load_at_seam d v f s.table s.memory).memory }

unfoldable pub after : Lent → List Request → Lent
after s [] = s
after s (r ∷ rs) = after (next s r) rs

abbrev pub BytesStayWithinRules : Type 0
BytesStayWithinRules =
    (s : Lent) → Bytes s.table → within_rules (length s.memory) (table_of s.table) ≡ true → (rs : List Request)
    → Kept (length s.memory) (table_of (after s rs).table) × (length (after s rs).memory ≡ length s.memory)
