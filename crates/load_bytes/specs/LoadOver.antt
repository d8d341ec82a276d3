-- Load over the bytes of the memory table: "Each success .. of load writes the table anew, zeros behind the ends", and a refusal leaves
-- it. "A table of another length, or with a number above 8, is 65 at 65's place".
use Rattle.std.specs.Prelude.{Bool, cond, List, ℕ, is_ok}
use Rattle.filecalls.specs.declared.Drive.{Drive}
use Rattle.memory_calls.specs.declared.Table.{Table}
use Rattle.memory_bytes.specs.TableBytes.{table_of, table_laid}
use Rattle.loading.specs.Load.{LoadAnswer, After, load}

-- the answer, and the bytes of table and memory
pub record LoadOver : Type 0 where
  pub answer : LoadAnswer
  pub table : List ℕ
  pub memory : List ℕ

abbrev pub load_over : LoadAnswer → List ℕ → List ℕ → LoadOver
load_over answer table memory = record { answer = answer; table = table; memory = memory }

abbrev pub is_loaded : LoadAnswer → Bool
is_loaded a = is_ok a

-- the table's bytes after that answer
abbrev pub table_after : LoadAnswer → Table → List ℕ → List ℕ
table_after answer t table = cond (is_loaded answer) (table_laid t) table

abbrev pub left_by : After → List ℕ → LoadOver
left_by a table = load_over a.reply.answer (table_after a.reply.answer a.reply.table table) a.memory

unfoldable pub load_bytes : Drive → List ℕ → List ℕ → List ℕ → List ℕ → LoadOver
load_bytes d v f table memory = left_by (load d v f (table_of table) memory) table
