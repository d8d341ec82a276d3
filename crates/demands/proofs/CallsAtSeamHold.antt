-- A call at the seam leaves what the door leaves in the state that the drive's bytes are: so the sentences of demands 1 and 2
-- hold of it.
use mathlib.Core.Path.{◌≡◌, refl, sym, ap, ap₂, ◌∙◌, subst}
use mathlib.Core.Bool.{Bool, true, false, ◌&&◌}
use mathlib.Core.Logic.{◌≢◌, ⊎_elim}
use mathlib.Core.List.{List, [], ◌∷◌}
use Prim.Native.Nat.{ℕ, ◌/◌, ◌%◌, ◌<◌}
use native.Mathlib.Omega.{arith}
use lib.Dec.{ltb}
use lib.ListN.{length}
use borrow.Author.Tests.{ltb-true, lt-ltb}
use Rattle.disk_geometry.specs.declared.Geometry.{Geometry}
use Rattle.disk_geometry.specs.Geometry.{blocks}
use Rattle.call_answers.specs.Answer.{number_of, succeeded}
use Rattle.filecalls.specs.declared.Drive.{Drive}
use Rattle.filecalls.specs.Outcome.{Outcome}
use Rattle.filecalls.specs.State.{is_open, closed}
use Rattle.call_served.specs.declared.Call.TheVariants.{LogIn}
use Rattle.bdos.specs.Step.{does, step}
use Rattle.call_served.specs.Asked.{Asked, asked}
use Rattle.call_served.specs.Calls.{call_of}
use Rattle.drive_bytes.specs.Layout.{drive_bytes, decoded, encoded_in}
use Rattle.drive_bytes.proofs.RoundTripHolds.{read_carried, closed_is_zeros}
use Rattle.drive_bytes.proofs.LentLaws.{open_length}
use Rattle.seam_words.specs.Answered.{answered}
use Rattle.seam_calls.specs.Seam.{Sealed, sealed, through, at_seam, log_in_at_seam, zeros}
use Rattle.churawel.proofs.LastingLaws.{Lasts}
use Rattle.churawel.proofs.FaithfulHolds as faithful
use Rattle.demands.specs.Demand1.{call}
use Rattle.demands.specs.Demand2.{all_written_by, volume_by}
use Rattle.demands.specs.AtSeam.{call_at_seam, number_in, value_in, succeeded_in, logs_in}
use Rattle.demands.specs.CallsAtSeam.{OpenDrive, behind, LeavesSame, SeamCalls, Demand1AtSeam, all_written_at_seam, volume_written, Demand2AtSeam}
use Rattle.demands.proofs.Demand1.{demand1}
use Rattle.demands.proofs.Demand2.{demand2}
use Rattle.demands.proofs.NumberTells.{success_told, low_half, high_half}
use Rattle.demands.proofs.AtSeamHolds.{call_is_step, through_told, is_log_in, log_in_answer}

-- ---- one call
module _ (c : Asked) (s v : List ℕ) (opens : is_open (decoded s) ≡ true) where
  is : call_at_seam c s v ≡ through s (behind c s v)
  is = call_is_step c s v opens

  success : succeeded_in c (call_at_seam c s v) ≡ succeeded (behind c s v).answer
  success = ap (succeeded_in c) is ∙ through_told s (decoded s).geometry c (decoded s) v

leaves_same : (c : Asked) (s v : List ℕ) → OpenDrive s → LeavesSame c s v
leaves_same c s v o =
    let same = is c s v o.opens in
    record {
      number_is = ap number_in same ∙ low_half (decoded s).geometry c (decoded s) v;
      value_is = ap value_in same ∙ high_half (decoded s).geometry c (decoded s) v;
      success_is = success c s v o.opens;
      state_is = λ small. faithful.call_faithful c.function c.parameter s v c.fcb c.buffer small o.bytes_are o.opens;
      volume_is = ap (λ (x : Sealed). x.volume) same;
      fcb_is_lem = ap (λ (x : Sealed). x.fcb) same;
      buffer_is_lem = ap (λ (x : Sealed). x.buffer) same;
    }

pub seam_calls : SeamCalls
seam_calls = leaves_same

-- ---- demand 1
closed_refused : (c : Asked) (s v : List ℕ) → is_open (decoded s) ≡ false → call_at_seam c s v ≡ sealed 32 s v c.fcb c.buffer
unfolding at_seam answered
closed_refused c s v e = rw e

module _ (c : Asked) (s v : List ℕ) (o : OpenDrive s) where
  -- by what C has, as the door answers
  answers_as : {t : Bool} → succeeded_in c (call_at_seam c s v) ≡ t → succeeded (behind c s v).answer ≡ t
  answers_as h = sym (leaves_same c s v o).success_is ∙ h

  -- with its own answer, of whatever it is known to be
  own_answer : {r : ℕ} {s' v' f' b' : List ℕ} → call_at_seam c s v ≡ sealed r s' v' f' b' → call_at_seam c s v ≡ sealed (call_at_seam c s v).answer s' v' f' b'
  own_answer {r} {s'} {v'} {f'} {b'} e = e ∙ sym (ap (λ (x : Sealed). sealed x.answer s' v' f' b') e)

  refused_leaves_all : call c ≢ LogIn → succeeded_in c (call_at_seam c s v) ≡ false → call_at_seam c s v ≡ sealed (call_at_seam c s v).answer s v c.fcb c.buffer
  refused_leaves_all n h =
      own_answer (faithful.refused_leaves_all c.function c.parameter s v c.fcb c.buffer o.bytes_are o.opens n (answers_as h))

  refused_log_in_closes : call c ≡ LogIn → succeeded_in c (call_at_seam c s v) ≡ false
      → call_at_seam c s v ≡ sealed (call_at_seam c s v).answer (zeros s) v c.fcb c.buffer
  refused_log_in_closes e h =
      let k = demand1.refused_log_in_closes (decoded s).geometry c (decoded s) v e (answers_as h) in
      let zeros_are = ap (λ (d : Drive). encoded_in d s) k.state_is ∙ closed_is_zeros s in
      own_answer (is c s v o.opens ∙ (λ i. sealed (answered (behind c s v).answer) (zeros_are i) (k.volume_kept i) (k.fcb_kept i) (k.buffer_kept i)))

pub demand1_at_seam : Demand1AtSeam
demand1_at_seam = record {
  closed_refused = closed_refused;
  refused_leaves_all = refused_leaves_all;
  refused_log_in_closes = refused_log_in_closes;
  success_of_paper = λ c s v o h. rw (leaves_same c s v o).number_is (demand1.success_of_paper (decoded s).geometry c (decoded s) v (answers_as c s v o h));
  refusal_of_paper = λ c s v o h. rw (leaves_same c s v o).number_is (demand1.refusal_of_paper (decoded s).geometry c (decoded s) v (answers_as c s v o h));
  first_test_refuses = λ c s v o h.
      let k = demand1.first_test_refuses (decoded s).geometry c (decoded s) v h in
      ((leaves_same c s v o).success_is ∙ k.0, (leaves_same c s v o).number_is ∙ k.1);
  no_test_succeeds = λ c s v o h. (leaves_same c s v o).success_is ∙ demand1.no_test_succeeds (decoded s).geometry c (decoded s) v h;
}

-- ---- demand 2: the sequential writes
-- a call that is no log-in, from a state that lasts
record Goes (g : Geometry) (c : Asked) (s v : List ℕ) : Type 0 where
  succeeds : succeeded_in c (call_at_seam c s v) ≡ succeeded (step g c (decoded s) v).answer
  state : decoded (call_at_seam c s v).drive ≡ (step g c (decoded s) v).drive
  volume : (call_at_seam c s v).volume ≡ (step g c (decoded s) v).volume
  fcb : (call_at_seam c s v).fcb ≡ (step g c (decoded s) v).fcb
  lasts : Lasts (decoded (call_at_seam c s v).drive)
  geometry : (decoded (call_at_seam c s v).drive).geometry ≡ g

goes : (c : Asked) → call c ≢ LogIn → c.parameter < 256 → (s v : List ℕ) → Lasts (decoded s) → Goes (decoded s).geometry c s v
goes c other small s v l =
    let same = is c s v l.opens in
    let next : Lasts (behind c s v).drive = ⊎_elim (λ e. absurd (other e)) (λ x. x) (faithful.step_lasts (decoded s) l.carried l.opens c small v) in
    let back : decoded (call_at_seam c s v).drive ≡ (behind c s v).drive = ap (λ (x : Sealed). decoded x.drive) same
    ∙ faithful.step_back (decoded s) l.carried l.opens c small v s (open_length s l.opens) in
    record {
      succeeds = success c s v l.opens;
      state = back;
      volume = ap (λ (x : Sealed). x.volume) same;
      fcb = ap (λ (x : Sealed). x.fcb) same;
      lasts = rw back next;
      geometry = ap (λ (d : Drive). d.geometry) back ∙ faithful.call_geometry (decoded s) c v next.opens;
    }

no_log_in : call_of 21 ≢ LogIn
unfolding call_of
no_log_in e = let z : ◌≡◌ {A = ℕ} 0 1 = cc in absurd (omega arith)

sequence_same : (g : Geometry) (p : ℕ) → p < 256 → (rs : List (List ℕ)) (s v f : List ℕ) → (decoded s).geometry ≡ g → Lasts (decoded s)
    → (all_written_at_seam p rs s v f ≡ all_written_by (step g) p rs (decoded s) v f) × (volume_written p rs s v f ≡ volume_by (step g) p rs (decoded s) v f)
sequence_same g p small [] s v f same l = (refl, refl)
sequence_same g p small (r ∷ rs) s v f same l =
    let c = asked 21 p f r in
    let k = subst (λ (x : Geometry). Goes x c s v) same (goes c no_log_in small s v l) in
    let rest = sequence_same g p small rs (call_at_seam c s v).drive (call_at_seam c s v).volume (call_at_seam c s v).fcb k.geometry k.lasts in
    (ap₂ ◌&&◌ k.succeeds (rest.0 ∙ (λ i. all_written_by (step g) p rs (k.state i) (k.volume i) (k.fcb i))), rest.1 ∙ (λ i. volume_by (step g) p rs (k.state i) (k.volume i) (k.fcb i)))

-- ---- demand 2: log-in
module _ (g : Geometry) (v s : List ℕ) (e : length s ≡ drive_bytes (blocks g)) where
  abbrev log_in_lem : Outcome
  log_in_lem = step g logs_in closed v

  log_in_is : (log_in_at_seam g v s).answer ≡ answered log_in_lem.answer
  unfolding step does call_of
  log_in_is = log_in_answer g v s e

  drive_is : decoded (log_in_at_seam g v s).drive ≡ log_in_lem.drive
  unfolding step does call_of
  drive_is = faithful.log_in_faithful g v s e

  same_volume : log_in_lem.volume ≡ v
  unfolding step does call_of
  same_volume = refl

  number_is : number_in (log_in_at_seam g v s) ≡ number_of log_in_lem.answer
  number_is = ap (λ (r : ℕ). r % 65536) log_in_is ∙ low_half g logs_in closed v

  told : ltb (number_of log_in_lem.answer) 1 ≡ succeeded log_in_lem.answer
  unfolding call_of
  told = success_told g logs_in closed v

  accepts : succeeded log_in_lem.answer ≡ true → number_in (log_in_at_seam g v s) ≡ 0
  accepts h = omega (arith, number_is, ltb-true (number_of log_in_lem.answer) 1 (told ∙ h))

  was_accepted : number_in (log_in_at_seam g v s) ≡ 0 → succeeded log_in_lem.answer ≡ true
  was_accepted h = sym told ∙ lt-ltb (number_of log_in_lem.answer) 1 (omega (arith, number_is, h))

pub demand2_at_seam : Demand2AtSeam
demand2_at_seam = record {
  refused_none_free = λ c s v o n r w t b h. demand2.refused_none_free (decoded s).geometry c (decoded s) v n r w t b (sym (leaves_same c s v o).number_is ∙ h);
  none_free_refused = λ c s v o n r w t b h. (leaves_same c s v o).number_is ∙ demand2.none_free_refused (decoded s).geometry c (decoded s) v n r w t b h;
  write_stores_lem = λ c s v o n r w h.
      rw (leaves_same c s v o).volume_is (demand2.write_stores_lem (decoded s).geometry c (decoded s) v n r w (answers_as c s v o h));
  write_keeps_others = λ c s v o n r w h.
      rw (leaves_same c s v o).volume_is (demand2.write_keeps_others (decoded s).geometry c (decoded s) v n r w (answers_as c s v o h));
  read_shows = λ c s v o n ts w h.
      rw (leaves_same c s v o).buffer_is_lem (demand2.read_shows (decoded s).geometry c (decoded s) v n ts w (answers_as c s v o h));
  present_is_read = λ c s v o n ts w t k r there.
      (leaves_same c s v o).success_is ∙ demand2.present_is_read (decoded s).geometry c (decoded s) v n ts w t k r there;
  sequential_writes = λ p small rs s v f o k h j l.
      let same = sequence_same (decoded s).geometry p small rs s v f refl (record { carried = read_carried s o.bytes_are o.opens; opens = o.opens }) in
      rw same.1 (demand2.sequential_writes (decoded s).geometry p rs (decoded s) v f k (sym same.0 ∙ h) j l);
  accepts_good = λ g v s e law size good. accepts g v s e (demand2.accepts_good g logs_in closed v is_log_in law size good);
  accepted_is_good = λ g v s e h. demand2.accepted_is_good g logs_in closed v is_log_in (was_accepted g v s e h);
  accepted_is_sound = λ g v s e h.
      rw (drive_is g v s e) (rw (same_volume g v s e) at (demand2.accepted_is_sound g logs_in closed v is_log_in (was_accepted g v s e h)));
  log_in_count = λ g v s e h.
      ap (λ (r : ℕ). r / 65536) (log_in_is g v s e) ∙ high_half g logs_in closed v ∙ demand2.log_in_count g logs_in closed v is_log_in (was_accepted g v s e h);
  log_in_holds = λ g v s e h. rw (drive_is g v s e) (demand2.log_in_holds g logs_in closed v is_log_in (was_accepted g v s e h));
  log_in_holds_no_other = λ g v s e h. rw (drive_is g v s e) (demand2.log_in_holds_no_other g logs_in closed v is_log_in (was_accepted g v s e h));
}
