-- Reading a file to its end, by what its parts found.
use mathlib.Core.Path.{◌≡◌, sym, ◌∙◌}
use mathlib.Core.Bool.{true, false, false≢true}
use mathlib.Core.List.{List}
use Prim.Native.Nat.{ℕ, suc, ◌+◌, ◌-◌, ◌≤◌, ◌<◌}
use native.Mathlib.Numerals.{add-one}
use native.Mathlib.Omega.{arith}
use lib.ListN.{length, replicate}
use Rattle.disk_geometry.specs.Geometry.{record_bytes}
use Rattle.call_fcb.specs.Fcb.{fcb_bytes}
use Rattle.call_answers.specs.declared.Refusal.{Refusal}
use Rattle.call_answers.specs.declared.Refusal.TheVariants.{None}
use Rattle.call_answers.specs.Refusal.{is_none, first}
use Rattle.filecalls.specs.declared.Drive.{Drive}
use Rattle.load_records.specs.declared.Seen.{Seen}
use Rattle.load_records.specs.Records.{unread, record_of, unsized, records, first_from, image_records, read_why}
use Rattle.load_records.specs.CodeReading.{short_why, AllRead, RestRead}
use Rattle.load_records.proofs.RecordLaws.{short_some, short_shown}

-- ---- a loop that stops at the first refusal: what is still to be asked gives the whole
pub record FirstSoFar (p : ℕ → Refusal) (n i : ℕ) : Type 0 where
  pub rest : first_from p 1 (n - 1) ≡ first_from p i (n - i)

less : (n i : ℕ) → i < n → n - i ≡ suc (n - (i + 1))
less n i h = omega arith

module _ {p : ℕ → Refusal} {n i : ℕ} (s : FirstSoFar p n i) where
  pub first_next : i < n → {why : Refusal} → why ≡ p i → is_none why ≡ true → FirstSoFar p n (i + 1)
  unfolding first_from
  first_next h {why} e t = let u : is_none (p i) ≡ true = rw (← e) t in record { rest = s.rest ∙ rw (less n i h, u, add-one) }

  pub first_stop : i < n → {why : Refusal} → why ≡ p i → is_none why ≡ false → why ≡ first_from p 1 (n - 1)
  unfolding first_from
  first_stop h {why} e t = let u : is_none (p i) ≡ false = rw (← e) t in e ∙ sym (s.rest ∙ rw (less n i h, u))

  pub first_end : n ≤ i → None ≡ first_from p 1 (n - 1)
  unfolding first_from
  first_end h = let z : n - i ≡ 0 = omega arith in sym (s.rest ∙ rw z)

-- ---- the first of two refusals
first_some : {a : Refusal} (b : Refusal) → is_none a ≡ false → a ≡ first a b
first_some b e = rw e

first_none : (a b : Refusal) → is_none a ≡ true → b ≡ first a b
first_none a b e = rw e

-- ---- the parts
module _ (d : Drive) (v f : List ℕ) where
  pub rest_unsized : {s : Seen} → s.why ≡ unsized d v f → s.records ≡ records d v f → s.records < 16777216 → is_none s.why ≡ false → RestRead d v f s
  rest_unsized {s} e z k n =
      let u : is_none (unsized d v f) ≡ false = rw (← e) n in
      record { refusal = e ∙ first_some (first_from (unread d v f) 1 (image_records d v f)) u; size = z; few = k }

  pub rest_read : {w r : Refusal} {n : ℕ} → w ≡ unsized d v f → n ≡ records d v f → n < 16777216 → is_none w ≡ true
      → r ≡ first_from (unread d v f) 1 (n - 1) → RestRead d v f (record { why = r; records = n })
  rest_read {w} {r} {n} e z k t h =
      let u : is_none (unsized d v f) ≡ true = rw (← e) t in
      record { refusal = (rw z at h) ∙ first_none (unsized d v f) (first_from (unread d v f) 1 (image_records d v f)) u; size = z; few = k }

  pub all_short : {why : Refusal} {h : List ℕ} → (length f ≡ fcb_bytes → ⊥) → why ≡ short_why d v → h ≡ replicate record_bytes 0
      → AllRead d v f h (record { why = why; records = 0 })
  unfolding read_why
  all_short {why} {h} n e z =
      let s = short_shown d v f n in
      let t : is_none (unread d v f 0) ≡ false = rw s.0 (short_some d v) in
      let u : is_none why ≡ false = rw e (short_some d v) in
      record {
        refusal = e ∙ sym s.0 ∙ first_some _ t;
        header = z ∙ sym s.1;
        lent = λ q. absurd (false≢true (sym u ∙ q));
        size = λ q. absurd (false≢true (sym u ∙ q));
        few = omega arith;
      }

  pub all_first : {why : Refusal} {h : List ℕ} → why ≡ unread d v f 0 → h ≡ record_of d v f 0 → is_none why ≡ false
      → AllRead d v f h (record { why = why; records = 0 })
  unfolding read_why
  all_first {why} {h} e z n =
      let t : is_none (unread d v f 0) ≡ false = rw (← e) n in
      record {
        refusal = e ∙ first_some _ t;
        header = z;
        lent = λ q. absurd (false≢true (sym n ∙ q));
        size = λ q. absurd (false≢true (sym n ∙ q));
        few = omega arith;
      }

  pub all_rest : {why : Refusal} {h : List ℕ} {r : Seen} → length f ≡ fcb_bytes → why ≡ unread d v f 0 → h ≡ record_of d v f 0 → is_none why ≡ true
      → RestRead d v f r → AllRead d v f h r
  unfolding read_why
  all_rest {why} {h} {r} l e z n s =
      let t : is_none (unread d v f 0) ≡ true = rw (← e) n in
      record { refusal = s.refusal ∙ first_none (unread d v f 0) _ t; header = z; lent = λ q. l; size = λ q. s.size; few = s.few }
