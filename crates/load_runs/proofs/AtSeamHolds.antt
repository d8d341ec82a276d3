-- The promises over bytes, from those over tables.
use mathlib.Core.Path.{◌≡◌, refl, ap}
use mathlib.Core.Bool.{Bool, true, false, cond, ◌&&◌}
use mathlib.Core.List.{List}
use Prim.Native.Nat.{ℕ, ◌%◌, ◌<◌}
use native.Mathlib.Omega.{arith}
use lib.Dec.{leb, ltb}
use lib.ListN.{length, drop, get_or}
use Rattle.std.specs.Prelude.{Ok, Err}
use Rattle.lists.specs.Bytes.{byte}
use Rattle.numbers.specs.Numbers.{Bytes}
use Rattle.filecalls.specs.declared.Drive.{Drive}
use Rattle.memory_spans.specs.Span.{none}
use Rattle.memory_calls.specs.declared.Reply.{Reply}
use Rattle.memory_calls.specs.Answer.{Answer, number_of}
use Rattle.memory_calls.specs.Table.{regions_of}
use Rattle.memory_calls.specs.Calls.{ALLOC_MEM, FREE_ALL_MEM, memory_call}
use Rattle.drive_bytes.specs.Layout.{decoded}
use Rattle.memory_bytes.specs.TableBytes.{table_of, mcb_of, table_laid, mcb_laid}
use Rattle.memory_bytes.specs.Over.{MCB_LENGTH, over, succeeded, mcb_refused, written_back, memory_over}
use Rattle.loading.specs.Load.{LoadAnswer, load}
use Rattle.load_promises.specs.Promises.{OutsideOf, new_regions}
use Rattle.load_promises.proofs.Theorem.{refused_load_alters_nothing, load_alters_no_other, loaded_lasting}
use Rattle.load_bytes.specs.LoadOver.{load_bytes, table_after}
use Rattle.seam_memory.specs.Load.{load_answered, load_at_seam}
use Rattle.load_runs.specs.AtSeam.{RefusedCallLeavesAll, RefusedLoadLeavesAll, LoadLeavesOthers}
use Rattle.load_runs.proofs.LaysLaws.{read_lays, load_lays, regions_again}

-- ---- a memory call: where its number is not 0 it was refused, and neither is written
written : (f : ℕ) (mcb table : List ℕ) (r : Reply) (a : Answer) → (number_of a ≡ 0 → ⊥)
    → (cond (succeeded a && ltb f FREE_ALL_MEM) (mcb_laid r.mcb) mcb ≡ mcb)
    × (cond (succeeded a && leb ALLOC_MEM f) (table_laid r.table) table ≡ table)
written f mcb table r (Ok done) n = absurd (n refl)
written f mcb table r (Err why) n = (refl, refl)

left : (f : ℕ) (mcb table : List ℕ) (r : Reply) (t : Bool)
    → ((cond t (over MCB_LENGTH mcb table) (written_back f mcb table r)).number ≡ 0 → ⊥)
    → ((cond t (over MCB_LENGTH mcb table) (written_back f mcb table r)).mcb ≡ mcb)
    × ((cond t (over MCB_LENGTH mcb table) (written_back f mcb table r)).table ≡ table)
unfolding written_back
left f mcb table r true n = (refl, refl)
left f mcb table r false n = written f mcb table r r.answer n

pub refused_call_leaves_all : RefusedCallLeavesAll
unfolding memory_over
refused_call_leaves_all f bytes mcb table n = left f mcb table (memory_call f bytes (table_of table) (mcb_of mcb)) (mcb_refused f mcb) n

-- ---- a load
pub refused_load_leaves_all : RefusedLoadLeavesAll
unfolding load_at_seam load_bytes load_answered
refused_load_leaves_all s v f table memory = go (load (decoded s) v f (table_of table) memory).reply.answer refl
  where
    go : (a : LoadAnswer) → (load (decoded s) v f (table_of table) memory).reply.answer ≡ a → (load_answered a % 65536 ≡ 0 → ⊥)
        → (table_after a (load (decoded s) v f (table_of table) memory).reply.table table ≡ table)
        × ((load (decoded s) v f (table_of table) memory).memory ≡ memory)
    go (Ok p) q n = absurd (n (omega arith))
    go (Err why) q n = (refl, (refused_load_alters_nothing (decoded s) v f (table_of table) memory why q).1)

-- the regions that are read again from the table's bytes are those that were granted
others : (d : Drive) (v f table memory : List ℕ) → Bytes table → (x : ℕ) (a : LoadAnswer) → (load d v f (table_of table) memory).reply.answer ≡ a
    → ((i : ℕ)
    → i < length (new_regions (table_of table) (table_of (table_after a (load d v f (table_of table) memory).reply.table table)))
    → OutsideOf (get_or (new_regions (table_of table) (table_of (table_after a (load d v f (table_of table) memory).reply.table table))) i none) x)
    → byte (load d v f (table_of table) memory).memory x ≡ byte memory x
others d v f table memory bytes x (Err why) q h =
    ap (λ (m : List ℕ). byte m x) (refused_load_alters_nothing d v f (table_of table) memory why q).1
others d v f table memory bytes x (Ok p) q h =
    let r = loaded_lasting d v f (table_of table) memory p q in
    let l = load_lays d v f (table_of table) memory (read_lays table bytes) in
    let e = ap (drop (length (regions_of (table_of table)))) (regions_again (length memory) (load d v f (table_of table) memory).reply.table l r.after) in
    load_alters_no_other d v f (table_of table) memory x (rw e at h)

pub load_leaves_others : LoadLeavesOthers
unfolding load_at_seam load_bytes
load_leaves_others s v f table memory bytes x o =
    others (decoded s) v f table memory bytes x (load (decoded s) v f (table_of table) memory).reply.answer refl o
