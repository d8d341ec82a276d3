-- A memory call over bytes: "31 for another function, then 34 (an mcb that is not five bytes; 58 is lent none and looks at none), then
-- 65". "Each success of 55 to 58 .. writes the table anew, zeros behind the ends"; each of 53 to 57 writes the control block. A refusal
-- leaves both.
use Rattle.std.specs.Prelude.{Bool, not, cond, ◌&&◌, List, ℕ, leb, ltb, eqb, length, is_ok}
use Rattle.memory_calls.specs.declared.Reply.{Reply}
use Rattle.memory_calls.specs.Answer.{Answer, number_of}
use Rattle.memory_calls.specs.Calls.{GET_MAX_MEM, ALLOC_MEM, FREE_ALL_MEM, memory_call}
use Rattle.memory_bytes.specs.TableBytes.{mcb_bytes, table_of, mcb_of, table_laid, mcb_laid}

-- 34, as for the control block of a file
abbrev pub MCB_LENGTH : ℕ
MCB_LENGTH = 34

-- all that a memory call over bytes leaves: its number, and the bytes of control block and table
pub record Over : Type 0 where
  pub number : ℕ
  pub mcb : List ℕ
  pub table : List ℕ

abbrev pub over : ℕ → List ℕ → List ℕ → Over
over number mcb table = record { number = number; mcb = mcb; table = table }

abbrev pub succeeded : Answer → Bool
succeeded a = is_ok a

-- "an mcb that is not five bytes": 53 to 57 are lent one
abbrev pub mcb_refused : ℕ → List ℕ → Bool
mcb_refused f mcb = leb GET_MAX_MEM f && ltb f FREE_ALL_MEM && not (eqb (length mcb) mcb_bytes)

-- what is written back of a reply
unfoldable pub written_back : ℕ → List ℕ → List ℕ → Reply → Over
written_back f mcb table r =
    over (number_of r.answer)
    (cond (succeeded r.answer && ltb f FREE_ALL_MEM) (mcb_laid r.mcb) mcb)
    (cond (succeeded r.answer && leb ALLOC_MEM f) (table_laid r.table) table)

unfoldable pub memory_over : ℕ → List ℕ → List ℕ → ℕ → Over
memory_over f mcb table bytes =
    cond (mcb_refused f mcb) (over MCB_LENGTH mcb table) (written_back f mcb table (memory_call f bytes (table_of table) (mcb_of mcb)))
