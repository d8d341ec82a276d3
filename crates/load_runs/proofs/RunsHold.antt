-- Runs over bytes: whichever bytes a call or a load leaves are a table within the rules.
use mathlib.Core.Path.{◌≡◌, refl, ◌∙◌}
use mathlib.Core.Bool.{Bool, true, false, cond, ◌&&◌}
use mathlib.Core.List.{List, [], ◌∷◌}
use Prim.Native.Nat.{ℕ}
use lib.Dec.{leb}
use lib.ListN.{length}
use Rattle.numbers.specs.Numbers.{Bytes}
use Rattle.drive_bytes.specs.Layout.{decoded}
use Rattle.memory_calls.specs.declared.Table.{Table}
use Rattle.memory_calls.specs.Table.{within_rules}
use Rattle.memory_calls.specs.Calls.{ALLOC_MEM, memory_call}
use Rattle.memory_promises.proofs.Theorem.{call_keeps, kept}
use Rattle.memory_bytes.specs.TableBytes.{table_of, mcb_of, table_laid}
use Rattle.memory_bytes.specs.Over.{MCB_LENGTH, over, succeeded, mcb_refused, written_back, memory_over}
use Rattle.loading.specs.Load.{load}
use Rattle.load_promises.proofs.Theorem.{load_keeps, load_keeps_length}
use Rattle.load_bytes.specs.LoadOver.{is_loaded, load_bytes}
use Rattle.seam_memory.specs.Load.{load_at_seam}
use Rattle.load_runs.specs.Runs.{Request, call, loading, Lent, next, after, BytesStayWithinRules}
use Rattle.load_runs.proofs.ShortLaws.{two_low}
use Rattle.load_runs.proofs.LaysLaws.{Lays, read_lays, call_lays, load_lays, rules_again, lays_again}

-- what is kept from call to call
record Stands (bytes : ℕ) (table : List ℕ) : Type 0 where
  pub rules : within_rules bytes (table_of table) ≡ true
  pub lays : Lays (table_of table)

laid_stands : (bytes : ℕ) (t : Table) → within_rules bytes t ≡ true → Lays t → Stands bytes (table_laid t)
laid_stands bytes t e c = record { rules = rules_again bytes t c e; lays = lays_again bytes t c e }

whichever : (P : List ℕ → Type 0) (test : Bool) (x y : List ℕ) → P x → P y → P (cond test x y)
whichever P true x y a b = a
whichever P false x y a b = b

module _ (bytes : ℕ) (table : List ℕ) (s : Stands bytes table) where
  called : (f : ℕ) (mcb : List ℕ) → Bytes mcb → Stands bytes (memory_over f mcb table bytes).table
  unfolding memory_over written_back
  called f mcb b = go (mcb_refused f mcb)
    where
      go : (t : Bool) → Stands bytes (cond t (over MCB_LENGTH mcb table) (written_back f mcb table (memory_call f bytes (table_of table) (mcb_of mcb)))).table
      go true = s
      go false =
          whichever (Stands bytes) (succeeded (memory_call f bytes (table_of table) (mcb_of mcb)).answer && leb ALLOC_MEM f) _ _
          (laid_stands bytes (memory_call f bytes (table_of table) (mcb_of mcb)).table (call_keeps f bytes (table_of table) (mcb_of mcb) s.rules)
          (call_lays bytes (table_of table) (mcb_of mcb) s.rules (two_low mcb b 0) (two_low mcb b 2) s.lays f))
          s

loaded : (table memory : List ℕ) → Stands (length memory) table → (s v f : List ℕ) → Stands (length memory) (load_at_seam s v f table memory).table
unfolding load_at_seam load_bytes
loaded table memory h s v f =
    let d = decoded s in
    whichever (Stands (length memory)) (is_loaded (load d v f (table_of table) memory).reply.answer) _ _
    (laid_stands (length memory) (load d v f (table_of table) memory).reply.table (load_keeps d v f (table_of table) memory h.rules) (load_lays d v f (table_of table) memory h.lays))
    h

next_length : (s : Lent) (r : Request) → length (next s r).memory ≡ length s.memory
unfolding next load_at_seam load_bytes
next_length s (call f mcb b) = refl
next_length s (loading d v f) = load_keeps_length (decoded d) v f (table_of s.table) s.memory

next_stands : (s : Lent) → Stands (length s.memory) s.table → (r : Request) → Stands (length s.memory) (next s r).table
unfolding next
next_stands s h (call f mcb b) = called (length s.memory) s.table h f mcb b
next_stands s h (loading d v f) = loaded s.table s.memory h d v f

run_stands : (s : Lent) → Stands (length s.memory) s.table → (rs : List Request)
    → Stands (length s.memory) (after s rs).table × (length (after s rs).memory ≡ length s.memory)
unfolding after
run_stands s h [] = (h, refl)
run_stands s h (r ∷ rs) =
    let e = next_length s r in
    let i = run_stands (next s r) (rw e (next_stands s h r)) rs in
    (rw e at i.0, i.1 ∙ e)

pub bytes_stay_within_rules : BytesStayWithinRules
bytes_stay_within_rules s b e rs =
    let r = run_stands s (record { rules = e; lays = read_lays s.table b }) rs in
    (kept (length s.memory) (table_of (after s rs).table) r.0.rules, r.1)
