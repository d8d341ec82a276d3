-- A memory call over bytes, by what its parts answer.
use mathlib.Core.Path.{◌≡◌, refl, sym, ◌∙◌}
use mathlib.Core.Bool.{Bool, true, false, cond, ◌&&◌, true≢false}
use mathlib.Core.List.{List}
use Prim.Native.Nat.{ℕ, ◌≤◌}
use borrow.Author.Tests.{eqb-true}
use lib.Dec.{leb, ltb, eqb}
use lib.ListN.{length}
use Rattle.lists.proofs.BoolLaws.{and_parts}
use Rattle.memory_spans.specs.Span.{places}
use Rattle.memory_calls.specs.declared.Table.{Table}
use Rattle.memory_calls.specs.declared.Mcb.{Mcb}
use Rattle.memory_calls.specs.declared.Reply.{Reply}
use Rattle.memory_calls.specs.Answer.{number_of}
use Rattle.memory_calls.specs.Table.{within_rules}
use Rattle.memory_calls.specs.Calls.{GET_MAX_MEM, ALLOC_MEM, FREE_ALL_MEM, memory_call}
use Rattle.memory_calls.proofs.CallLaws.{within_facts}
use Rattle.memory_promises.proofs.Theorem.{call_keeps}
use Rattle.memory_bytes.specs.TableBytes.{table_bytes, mcb_bytes, table_of, mcb_of, table_laid, mcb_laid}
use Rattle.memory_bytes.specs.Over.{MCB_LENGTH, over, succeeded, mcb_refused, written_back, memory_over}
use Rattle.memory_bytes.proofs.BytesLaws.{used_few}

-- ---- a call that succeeded is served, and its table is within the rules
pub record Serves (f bytes : ℕ) (t : Table) : Type 0 where
  pub from : leb GET_MAX_MEM f ≡ true
  pub rules : within_rules bytes t ≡ true

pub done_serves : (f bytes : ℕ) (t : Table) (m : Mcb) → succeeded (memory_call f bytes t m).answer ≡ true → Serves f bytes t
unfolding memory_call
done_serves f bytes t m e = go (leb GET_MAX_MEM f && leb f FREE_ALL_MEM) refl
  where
    inner : (leb GET_MAX_MEM f && leb f FREE_ALL_MEM) ≡ true → (x : Bool) → within_rules bytes t ≡ x → Serves f bytes t
    inner a true r = record { from = (and_parts (leb GET_MAX_MEM f) (leb f FREE_ALL_MEM) a).0; rules = r }
    inner a false r = absurd (true≢false (sym (rw (a, r) at e)))

    go : (x : Bool) → (leb GET_MAX_MEM f && leb f FREE_ALL_MEM) ≡ x → Serves f bytes t
    go true a = inner a (within_rules bytes t) refl
    go false a = absurd (true≢false (sym (rw a at e)))

-- ---- 34, and what stands behind it
module _ (f : ℕ) (mcb table : List ℕ) (bytes : ℕ) where
  pub is_34 : mcb_refused f mcb ≡ true → over MCB_LENGTH mcb table ≡ memory_over f mcb table bytes
  unfolding memory_over
  is_34 e = rw e

  module _ (lent : mcb_refused f mcb ≡ false) {t : Table} {m : Mcb} {r : Reply} {done : Bool} (t-is : t ≡ table_of table) (m-is : m ≡ mcb_of mcb)
      (r-is : r ≡ memory_call f bytes t m) (d : done ≡ succeeded r.answer) where
    is : r ≡ memory_call f bytes (table_of table) (mcb_of mcb)
    is = rw (t-is, m-is) at r-is

    pub goes_on : {n : ℕ} {m' t' : List ℕ} → m' ≡ cond (done && ltb f FREE_ALL_MEM) (mcb_laid r.mcb) mcb
        → t' ≡ cond (done && leb ALLOC_MEM f) (table_laid r.table) table → n ≡ number_of r.answer → over n m' t' ≡ memory_over f mcb table bytes
    unfolding memory_over written_back
    goes_on x y z = rw (lent, ← is, x, y, z, d)

    serves : done ≡ true → Serves f bytes (table_of table)
    serves e = done_serves f bytes (table_of table) (mcb_of mcb) (rw is at (sym d ∙ e))

    pub mcb_lent : (done && ltb f FREE_ALL_MEM) ≡ true → length mcb ≡ mcb_bytes
    mcb_lent e =
        let a = and_parts done (ltb f FREE_ALL_MEM) e in
        let s = serves a.0 in
        go (eqb (length mcb) mcb_bytes) refl s.from a.1
      where
        go : (x : Bool) → eqb (length mcb) mcb_bytes ≡ x → leb GET_MAX_MEM f ≡ true → ltb f FREE_ALL_MEM ≡ true → length mcb ≡ mcb_bytes
        go true q u v = eqb-true (length mcb) mcb_bytes q
        go false q u v = absurd (true≢false (rw (u, v, q) at lent))

    pub table_lent : (done && leb ALLOC_MEM f) ≡ true → (length table ≡ table_bytes) × ((r.table.used ≤ places) × (r.table.granted ≤ places))
    unfolding table_of
    table_lent e =
        let s = serves (and_parts done (leb ALLOC_MEM f) e).0 in
        let w = within_facts bytes (table_of table) s.rules in
        let k = within_facts bytes r.table (rw is (call_keeps f bytes (table_of table) (mcb_of mcb) s.rules)) in
        (used_few table w.few_pieces, (k.few_pieces, k.few_regions))
