-- What a read and a size of the file calls leave, as it is asked for here; a record has 128 bytes.
use mathlib.Core.Path.{◌≡◌, refl, sym, ap, ◌∙◌}
use mathlib.Core.Bool.{Bool, true, false, cond, not}
use mathlib.Core.List.{List, [], ◌++◌}
use Prim.Native.Nat.{ℕ, ◌%◌}
use borrow.Author.Tests.{ne_eqb, not-false}
use lib.Dec.{eqb}
use lib.ListN.{length, replicate, length-set}
use Rattle.lists.proofs.PartLaws.{length_part}
use Rattle.disk_geometry.specs.Geometry.{bytes, record_bytes, record_start, inside}
use Rattle.disk_geometry.proofs.GeometryLaws.{record_in}
use Rattle.disk_geometry.proofs.InsideLaws.{inside_is}
use Rattle.disk_volume.specs.Name.{name_of}
use Rattle.disk_volume.specs.Record.{record_at}
use Rattle.call_fcb.specs.Fcb.{fcb_bytes, random, with_random}
use Rattle.call_answers.specs.declared.Refusal.{Refusal}
use Rattle.call_answers.specs.declared.Refusal.TheVariants.{NoFile, NoGroup, Absent, Outside, Closed, VolumeLength, FcbLength}
use Rattle.call_answers.specs.Refusal.{is_none, refusing, first, first_met}
use Rattle.call_answers.specs.Answer.{why_of}
use Rattle.call_answers.proofs.Ladder.{unmet}
use Rattle.call_read.specs.Read.{read_tests, read_block, read_bytes}
use Rattle.filecalls.specs.declared.Drive.{Drive}
use Rattle.filecalls.specs.declared.Reply.{Reply}
use Rattle.filecalls.specs.State.{is_open}
use Rattle.filecalls.specs.Outcome.{Outcome, outcome, Act, deny, unless, left}
use Rattle.filecalls.specs.Read.{random_tests, read_done, read_random_act}
use Rattle.filecalls.specs.Leaves.{read_random_leaves, size_leaves}
use Rattle.filecalls.specs.CodeReady.{Lent}
use Rattle.filecalls.specs.CodeLadder.{named_tests, random_lent}
use Rattle.filecalls.proofs.StateLaws.{both_clear, named_clear}
use Rattle.filecalls.proofs.LentLaws.{random_lent_lem}
use Rattle.load_records.specs.Records.{shown, unread, record_of, measured, unsized}
use Rattle.load_records.specs.CodeReading.{short_why}

-- the read that was lent a copy, and a buffer of zeros
zeros : {k : ℕ} {b : List ℕ} → b ≡ replicate k 0 → k ≡ record_bytes → b ≡ replicate record_bytes 0
zeros z l = z ∙ ap (λ (m : ℕ). replicate m 0) l

pub sizes : (d : Drive) (v f : List ℕ) {r : Reply} {why : Refusal} {copy f' : List ℕ}
    → copy ≡ f → left r v f' [] ≡ size_leaves d v copy → why ≡ why_of r.answer → (why ≡ unsized d v f) × (f' ≡ (measured d v f).fcb)
unfolding measured
sizes d v f {r} {why} {copy} {f'} e h w =
    let o : left r v f' [] ≡ size_leaves d v f = rw e at h in
    (w ∙ ap (λ (x : Outcome). why_of x.answer) o, ap (λ (x : Outcome). x.fcb) o)

-- ---- a control block of another length than 36
some : (a b : Bool) → is_none (first (refusing Closed a) (first (refusing VolumeLength b) FcbLength)) ≡ false
some true b = refl
some false true = refl
some false false = refl

pub short_some : (d : Drive) (v : List ℕ) → is_none (short_why d v) ≡ false
unfolding short_why first_met
short_some d v = some (not (is_open d)) (not (eqb (length v) (bytes d.geometry)))

short_denied : (d : Drive) (v f b : List ℕ) → (length f ≡ fcb_bytes → ⊥) → read_random_act d v f b ≡ deny (short_why d v)
unfolding read_random_act random_tests unless short_why first_met
short_denied d v f b n =
    rw (ne_eqb (length f) fcb_bytes n, some (not (is_open d)) (not (eqb (length v) (bytes d.geometry))))

pub shorts : (d : Drive) (v f : List ℕ) {r : Reply} {why : Refusal} {k : ℕ} {b f' b' : List ℕ}
    → (length f ≡ fcb_bytes → ⊥) → b ≡ replicate k 0 → k ≡ record_bytes → left r v f' b' ≡ read_random_leaves d v f b → why ≡ why_of r.answer
    → (why ≡ short_why d v) × (b' ≡ replicate record_bytes 0)
unfolding outcome
shorts d v f {r} {why} {k} {b} {f'} {b'} n z l h w =
    let o : left r v f' b' ≡ outcome d v f b (deny (short_why d v)) = rw (short_denied d v f b n) at h in
    (w ∙ ap (λ (x : Outcome). why_of x.answer) o, ap (λ (x : Outcome). x.buffer) o ∙ zeros z l)

length_random : (f : List ℕ) (n : ℕ) → length (with_random f n) ≡ length f
unfolding with_random
length_random f n = simp length-set

pub short_shown : (d : Drive) (v f : List ℕ) → (length f ≡ fcb_bytes → ⊥) → (unread d v f 0 ≡ short_why d v) × (record_of d v f 0 ≡ replicate record_bytes 0)
unfolding shown outcome
short_shown d v f n =
    let e = short_denied d v (with_random f 0) (replicate record_bytes 0) (λ q. n (sym (length_random f 0) ∙ q)) in
    (ap (λ (a : Act). why_of (outcome d v (with_random f 0) (replicate record_bytes 0) a).answer) e, ap (λ (a : Act). (outcome d v (with_random f 0) (replicate record_bytes 0) a).buffer) e)

-- ---- a record has 128 bytes, also where the read was refused
module _ (d : Drive) (v f b : List ℕ) (e : is_none (first_met (random_tests d v f b ++ read_tests d.geometry v d.user (name_of f) (random f) NoGroup)) ≡ true) where
  parts : (is_none (first_met (random_tests d v f b)) ≡ true) × (is_none (first_met (read_tests d.geometry v d.user (name_of f) (random f) NoGroup)) ≡ true)
  parts = both_clear (random_tests d v f b) (read_tests d.geometry v d.user (name_of f) (random f) NoGroup) e

  lent : Lent d (length v) (length f) (length b)
  unfolding random_lent
  lent =
      let r : is_none (first_met (random_lent d v f (length b))) ≡ true = rw (random_lent_lem d v f b) at parts.0 in
      named_clear d v f (length b) false (both_clear (named_tests d v f (length b) false) _ r).0

  block_inside : inside d.geometry (read_block d.geometry v d.user (name_of f) (random f)) ≡ true
  unfolding read_tests
  block_inside =
      let a = unmet NoFile _ _ refl parts.1 in
      let g = unmet NoGroup _ _ refl a.1 in
      let p = unmet Absent _ _ refl g.1 in
      let o = unmet Outside _ _ refl p.1 in
      not-false (inside d.geometry (read_block d.geometry v d.user (name_of f) (random f))) o.0

  length_read : length (read_bytes d.geometry v d.user (name_of f) (random f)) ≡ record_bytes
  unfolding read_bytes record_at
  length_read =
      let l = lent in
      let w = record_in d.geometry l.state.law (read_block d.geometry v d.user (name_of f) (random f)) (random f) (inside_is d.geometry _ block_inside).1 in
      length_part v (record_start d.geometry (read_block d.geometry v d.user (name_of f) (random f)) (random f)) record_bytes (rw l.volume w)

buffer_length_lem : (d : Drive) (v f b : List ℕ) → length b ≡ record_bytes → length (read_random_leaves d v f b).buffer ≡ record_bytes
unfolding read_random_act unless read_done outcome
buffer_length_lem d v f b n = go (is_none (first_met (random_tests d v f b ++ read_tests d.geometry v d.user (name_of f) (random f) NoGroup))) refl
  where
    go : (t : Bool)
        → is_none (first_met (random_tests d v f b ++ read_tests d.geometry v d.user (name_of f) (random f) NoGroup)) ≡ t
        → length
        (outcome d v f b
        (cond t (read_done d v f (random f) (random f % 128)) (deny (first_met (random_tests d v f b ++ read_tests d.geometry v d.user (name_of f) (random f) NoGroup))))).buffer
        ≡ record_bytes
    go true e = length_read d v f b e
    go false e = n

pub record_length : (d : Drive) (v f : List ℕ) (n : ℕ) → length (record_of d v f n) ≡ record_bytes
unfolding shown
record_length d v f n = buffer_length_lem d v (with_random f n) (replicate record_bytes 0) refl
