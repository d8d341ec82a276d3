-- A grant, the free of what it granted and the same request again, over bytes.
use mathlib.Core.Path.{◌≡◌, refl, ap, ◌∙◌}
use mathlib.Core.Bool.{Bool, true, false, cond}
use mathlib.Core.List.{List}
use mathlib.Core.Logic.{◌⊎◌, ⊎_elim}
use Prim.Native.Nat.{ℕ, ◌<◌}
use native.Mathlib.Omega.{arith}
use borrow.Author.Tests.{ltb-true}
use lib.Dec.{leb, ltb}
use Rattle.std.specs.Prelude.{Ok, Err}
use Rattle.numbers.specs.Numbers.{Bytes, bytes_of}
use Rattle.memory_spans.specs.Span.{places, paragraphs}
use Rattle.memory_spans.specs.Room.{has_room}
use Rattle.memory_room.specs.Starts.{lowest_start}
use Rattle.memory_calls.specs.declared.Table.{Table}
use Rattle.memory_calls.specs.declared.Mcb.{Mcb}
use Rattle.memory_calls.specs.Answer.{Answer, number_of, refusal_number}
use Rattle.memory_calls.specs.declared.Refusal.{Refusal}
use Rattle.memory_calls.specs.declared.Refusal.TheVariants.{NotServed, Rules, NoPlace, NoRoom, BadFree}
use Rattle.memory_calls.specs.declared.Reply.{Reply}
use Rattle.memory_calls.specs.Table.{pieces_of, regions_of, within_rules}
use Rattle.memory_calls.specs.Calls.{ALLOC_MEM, ALLOC_ABS_MEM, FREE_MEM, FREE_ALL_MEM, granted, granted_at, serve, memory_call}
use Rattle.memory_promises.specs.Promises as tables
use Rattle.memory_promises.proofs.Theorem.{split, call_keeps, grant_then_free}
use Rattle.memory_bytes.specs.TableBytes.{table_of, mcb_of, table_laid, mcb_laid}
use Rattle.memory_bytes.specs.Over.{MCB_LENGTH, Over, over, succeeded, mcb_refused, written_back, memory_over}
use Rattle.memory_bytes.proofs.OverLaws.{done_serves}
use Rattle.memory_bytes.proofs.RoundTripHolds.{mcb_is_read}
use Rattle.load_runs.specs.AtSeam.{freed_behind, Restored, GrantThenFreeAtSeam}
use Rattle.load_runs.proofs.ShortLaws.{two_low}
use Rattle.load_runs.proofs.LaysLaws.{Lays, read_lays, call_lays, tidy, pieces_tidy, regions_tidy, laid_tidy, read_again}
use Rattle.load_runs.proofs.TidyLaws.{tidied, call_tidy}

-- ---- the number 0, and what a call that may change the table leaves with it
not_0 : (why : Refusal) → refusal_number why ≡ 0 → ⊥
not_0 NotServed e = omega arith
not_0 Rules e = omega arith
not_0 NoPlace e = omega arith
not_0 NoRoom e = omega arith
not_0 BadFree e = omega arith

-- its block has five bytes, and the call over the table that was read is done
record Did (f bytes : ℕ) (mcb table : List ℕ) : Type 0 where
  pub lent : mcb_refused f mcb ≡ false
  pub done : (memory_call f bytes (table_of table) (mcb_of mcb)).answer ≡ Ok tt

module _ (f bytes : ℕ) (mcb table : List ℕ) where
  number_did : (memory_over f mcb table bytes).number ≡ 0 → Did f bytes mcb table
  unfolding memory_over written_back
  number_did = whether (mcb_refused f mcb) refl
    where
      answered : (a : Answer) → (memory_call f bytes (table_of table) (mcb_of mcb)).answer ≡ a → number_of a ≡ 0 → a ≡ Ok tt
      answered (Ok done) q n = refl
      answered (Err why) q n = absurd (not_0 why n)

      whether : (t : Bool) → mcb_refused f mcb ≡ t
          → (cond t (over MCB_LENGTH mcb table) (written_back f mcb table (memory_call f bytes (table_of table) (mcb_of mcb)))).number ≡ 0 → Did f bytes mcb table
      whether true q n = absurd (omega arith)
      whether false q n = record { lent = q; done = answered (memory_call f bytes (table_of table) (mcb_of mcb)).answer refl n }

  did_leaves : ltb f FREE_ALL_MEM ≡ true → leb ALLOC_MEM f ≡ true → {r : Reply} → memory_call f bytes (table_of table) (mcb_of mcb) ≡ r → r.answer ≡ Ok tt
      → mcb_refused f mcb ≡ false → memory_over f mcb table bytes ≡ over 0 (mcb_laid r.mcb) (table_laid r.table)
  unfolding memory_over written_back
  did_leaves a c e d q = rw (q, e, d, a, c)

-- ---- what a grant hands back fits 16 bits
abbrev Fits : Mcb → Type 0
Fits m = (m.base < paragraphs) × (m.length < paragraphs)

module _ (bytes : ℕ) (t : Table) (b : Mcb) (h : Fits b) where
  fits_55 : Fits (memory_call ALLOC_MEM bytes t b).mcb
  unfolding memory_call serve granted
  fits_55 =
      split (λ r. Fits r.mcb) (within_rules bytes t) _ _
      (λ w.
      split (λ r. Fits r.mcb) (ltb t.granted places) _ _
      (λ e.
      split (λ r. Fits r.mcb) (ltb (lowest_start (pieces_of t) (regions_of t) b.length) paragraphs) _ _
      (λ g. (ltb-true (lowest_start (pieces_of t) (regions_of t) b.length) paragraphs g, h.1))
      (λ g. h))
      (λ e. h))
      (λ w. h)

  fits_56 : Fits (memory_call ALLOC_ABS_MEM bytes t b).mcb
  unfolding memory_call serve granted_at
  fits_56 =
      split (λ r. Fits r.mcb) (within_rules bytes t) _ _
      (λ w.
      split (λ r. Fits r.mcb) (ltb t.granted places) _ _
      (λ e. split (λ r. Fits r.mcb) (has_room (pieces_of t) (regions_of t) b.length b.base) _ _ (λ g. h) (λ g. h))
      (λ e. h))
      (λ w. h)

-- ---- f is 55 or 56
record Grants (f : ℕ) : Type 0 where
  pub below : ltb f FREE_ALL_MEM ≡ true
  pub from : leb ALLOC_MEM f ≡ true
  pub fits : (bytes : ℕ) (t : Table) (b : Mcb) → Fits b → Fits (memory_call f bytes t b).mcb

grants : (f : ℕ) → (f ≡ ALLOC_MEM) ⊎ (f ≡ ALLOC_ABS_MEM) → Grants f
grants f c = ⊎_elim (λ e. rw e is_55) (λ e. rw e is_56) c
  where
    is_55 : Grants ALLOC_MEM
    is_55 = record { below = refl; from = refl; fits = fits_55 }

    is_56 : Grants ALLOC_ABS_MEM
    is_56 = record { below = refl; from = refl; fits = fits_56 }

five : (m : Mcb) → mcb_refused FREE_MEM (mcb_laid m) ≡ false
unfolding mcb_laid bytes_of
five m = refl

module _ (f bytes : ℕ) (mcb table : List ℕ) (block : Bytes mcb) (cells : Bytes table) (c : (f ≡ ALLOC_MEM) ⊎ (f ≡ ALLOC_ABS_MEM))
    (n : (memory_over f mcb table bytes).number ≡ 0) where
  did : Did f bytes mcb table
  did = number_did f bytes mcb table n

  rules : within_rules bytes (table_of table) ≡ true
  rules = (done_serves f bytes (table_of table) (mcb_of mcb) (ap succeeded did.done)).rules

  -- the first call
  r : Reply
  r = memory_call f bytes (table_of table) (mcb_of mcb)

  r_lays : Lays r.table
  unfolding r
  r_lays = call_lays bytes (table_of table) (mcb_of mcb) rules (two_low mcb block 0) (two_low mcb block 2) (read_lays table cells) f

  r_rules : within_rules bytes r.table ≡ true
  unfolding r
  r_rules = call_keeps f bytes (table_of table) (mcb_of mcb) rules

  r_fits : Fits r.mcb
  unfolding r
  r_fits = (grants f c).fits bytes (table_of table) (mcb_of mcb) (two_low mcb block 0, two_low mcb block 2)

  first : memory_over f mcb table bytes ≡ over 0 (mcb_laid r.mcb) (table_laid r.table)
  unfolding r
  first = did_leaves f bytes mcb table (grants f c).below (grants f c).from refl did.done did.lent

  -- the free of what it granted
  q : Reply
  q = memory_call FREE_MEM bytes r.table r.mcb

  back : tables.Restored f bytes (table_of table) (mcb_of mcb) q
  unfolding q r
  back = grant_then_free f bytes (table_of table) (mcb_of mcb) c did.done

  q_lays : Lays q.table
  unfolding q
  q_lays = call_lays bytes r.table r.mcb r_rules r_fits.0 r_fits.1 r_lays FREE_MEM

  q_rules : within_rules bytes q.table ≡ true
  unfolding q
  q_rules = call_keeps FREE_MEM bytes r.table r.mcb r_rules

  second : memory_call FREE_MEM bytes (table_of (table_laid r.table)) (mcb_of (mcb_laid r.mcb)) ≡ tidied q
  unfolding q
  second = rw (read_again bytes r.table r_lays r_rules, mcb_is_read r.mcb r_fits.0 r_fits.1) (call_tidy bytes r.table r_lays r_rules r.mcb FREE_MEM)

  freed_is : freed_behind f bytes mcb table ≡ over 0 (mcb_laid q.mcb) (table_laid q.table)
  freed_is =
      rw first
      (did_leaves FREE_MEM bytes (mcb_laid r.mcb) (table_laid r.table) refl refl second back.done (five r.mcb)
      ∙ ap (over 0 (mcb_laid q.mcb)) (laid_tidy bytes q.table q_lays q_rules))

  -- and the same request again
  read_q : table_of (table_laid q.table) ≡ tidy q.table
  read_q = read_again bytes q.table q_lays q_rules

  third : memory_call f bytes (table_of (table_laid q.table)) (mcb_of mcb) ≡ tidied (memory_call f bytes q.table (mcb_of mcb))
  third = rw read_q (call_tidy bytes q.table q_lays q_rules (mcb_of mcb) f)

  once_more : memory_over f mcb (table_laid q.table) bytes
      ≡ over 0 (mcb_laid (memory_call f bytes q.table (mcb_of mcb)).mcb) (table_laid (tidy (memory_call f bytes q.table (mcb_of mcb)).table))
  once_more = did_leaves f bytes mcb (table_laid q.table) (grants f c).below (grants f c).from third back.again did.lent

  pieces_q : pieces_of (tidy q.table) ≡ pieces_of q.table
  pieces_q = pieces_tidy bytes q.table q_lays q_rules

  regions_q : regions_of (tidy q.table) ≡ regions_of q.table
  regions_q = regions_tidy bytes q.table q_lays q_rules

  restored : Restored f bytes mcb table (over 0 (mcb_laid q.mcb) (table_laid q.table))
  restored =
      record {
        done = refl;
        regions = rw (read_q, regions_q) back.regions;
        same_free = λ p. rw (read_q, pieces_q, regions_q) (back.same_free p);
        again = ap (λ (o : Over). o.number) once_more;
        same_region = rw (once_more, first) (ap mcb_laid (unfold r in back.same_region));
      }

pub grant_then_free_at_seam : GrantThenFreeAtSeam
grant_then_free_at_seam f bytes mcb table block cells c n = rw (freed_is f bytes mcb table block cells c n) (restored f bytes mcb table block cells c n)
