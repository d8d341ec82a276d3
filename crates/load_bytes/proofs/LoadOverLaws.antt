-- What load leaves, as bytes; and where it was done, the table is one that the bytes can take.
use mathlib.Core.Path.{◌≡◌, refl, sym, ap, ◌∙◌}
use mathlib.Core.Bool.{true, true≢false}
use mathlib.Core.List.{List}
use Prim.Native.Nat.{ℕ, ◌≤◌, ◌<◌}
use native.Mathlib.Omega.{arith}
use lib.ListN.{length}
use Rattle.std.specs.Prelude.{Ok, Err}
use Rattle.filecalls.specs.declared.Drive.{Drive}
use Rattle.memory_spans.specs.Span.{places, paragraphs}
use Rattle.memory_calls.specs.declared.Table.{Table}
use Rattle.memory_calls.proofs.CallLaws.{within_facts}
use Rattle.memory_bytes.specs.TableBytes.{table_bytes, table_of}
use Rattle.memory_bytes.proofs.BytesLaws.{used_few}
use Rattle.loading.specs.Load.{LoadAnswer, After, after, value_of, load}
use Rattle.loading.specs.declared.LoadReply.{LoadReply}
use Rattle.load_promises.proofs.Theorem.{loaded_lasting}
use Rattle.load_bytes.specs.LoadOver.{load_over, is_loaded, table_after, load_bytes}

module _ (d : Drive) (v f table memory : List ℕ) where
  -- the value fits 16 bits
  pub value_low : value_of (load_bytes d v f table memory).answer < paragraphs
  unfolding load_bytes
  value_low = go (load d v f (table_of table) memory).reply.answer refl
    where
      go : (a : LoadAnswer) → (load d v f (table_of table) memory).reply.answer ≡ a → value_of a < paragraphs
      go (Ok p) q = (loaded_lasting d v f (table_of table) memory p q).named
      go (Err why) q = omega arith

  module _ {t : Table} (t-is : t ≡ table_of table) {reply : LoadReply} {m : List ℕ} (r-is : after reply m ≡ load d v f t memory) where
    is : after reply m ≡ load d v f (table_of table) memory
    is = rw t-is at r-is

    pub table_lent : is_loaded reply.answer ≡ true → (length table ≡ table_bytes) × ((reply.table.used ≤ places) × (reply.table.granted ≤ places))
    unfolding table_of
    table_lent = go reply.answer refl
      where
        go : (a : LoadAnswer) → reply.answer ≡ a → is_loaded a ≡ true
            → (length table ≡ table_bytes) × ((reply.table.used ≤ places) × (reply.table.granted ≤ places))
        go (Err why) q e = absurd (true≢false (sym e))
        go (Ok p) q e =
            let l = loaded_lasting d v f (table_of table) memory p (ap (λ (x : After). x.reply.answer) (sym is) ∙ q) in
            let w = within_facts (length memory) (table_of table) l.before in
            let k = within_facts (length memory) reply.table (rw (ap (λ (x : After). x.reply.table) is) l.after) in
            (used_few table w.few_pieces, (k.few_pieces, k.few_regions))

    pub left_over : {x : List ℕ} → x ≡ table_after reply.answer reply.table table → load_over reply.answer x m ≡ load_bytes d v f table memory
    unfolding load_bytes
    left_over e = rw (e, ← is)
