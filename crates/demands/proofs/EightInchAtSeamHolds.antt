-- A run from C is one at the door in which a closed drive is refused whatever is asked, and such a run too goes on the image as on the
-- unskewed volume; so does a cut, which a closed drive makes none of.
use mathlib.Core.Path.{◌≡◌, refl, sym, ap, subst, subst₂, ◌∙◌}
use mathlib.Core.Bool.{Bool, true, false, cond, true≢false}
use mathlib.Core.List.{List, ◌∷◌, map}
use Prim.Native.Nat.{ℕ, ◌+◌, ◌*◌, min}
use lib.Dec.{eqb}
use lib.ListN.{length}
use Rattle.disk_geometry.specs.declared.Geometry.{Geometry}
use Rattle.disk_geometry.specs.Geometry.{floppy, lawful, bytes, blocks}
use Rattle.disk_stores.specs.Stores.{cut}
use Rattle.call_answers.specs.declared.Refusal.TheVariants.{Closed}
use Rattle.call_answers.specs.declared.Answer.TheVariants.{Refused}
use Rattle.call_served.specs.Asked.{Asked}
use Rattle.unskewed.specs.Unskewed.{straightened, unskewed}
use Rattle.filecalls.specs.declared.Drive.{Drive}
use Rattle.filecalls.specs.State.{is_open, closed}
use Rattle.filecalls.specs.Stores.{refused_by}
use Rattle.filecalls.specs.Outcome.{Outcome, left}
use Rattle.bdos.specs.Step.{step}
use Rattle.bdos.specs.Stores.{stores_of}
use Rattle.drive_bytes.specs.Layout.{drive_bytes, blocks_at, decoded}
use Rattle.seam_words.specs.Answered.{answered}
use Rattle.seam_calls.specs.Seam.{Sealed, zeros, refused_closed, cut_at_seam}
use Rattle.demands.specs.Run.{Seen, seen, Way, answers, final, final_state}
use Rattle.demands.specs.AtSeam.{in_numbers, volume_left, drive_left, FromC, logs_in, while_open}
use Rattle.demands.specs.EightInch.{straight_drive, StateOf, has_geometry, shut, SpareSame}
use Rattle.demands.specs.EightInchAtSeam.{SeamAsUnskewed, EachRunAtSeam, SpareKeptAtSeam}
use Rattle.demands.proofs.AtSeamHolds.{seam_runs_on_any}
use Rattle.demands.proofs.CutsAtSeamHold.{cut_open_lem}
use Rattle.demands.proofs.EightInchHolds.{straight_open, straight_closed, straight_geometry, closed_is_shut, each_call, each_cut, Goes, GoesBy, goes, RunGoes, run_goes, floppy_lawful, spare_none, spare_then, step_spares, cut_spares, run_spares}

-- ---- calls, while the drive is open
abbrev opened : Geometry → Way
opened g = while_open (step g)

-- what a closed drive leaves
abbrev as_given : Asked → Drive → List ℕ → Outcome
as_given c d v = left (record { answer = Refused Closed; drive = d }) v c.fcb c.buffer

open_goes : (g : Geometry) → lawful g ≡ true → GoesBy opened g
unfolding while_open
open_goes g good c d st v size = go (is_open d) refl
  where
    by : Bool → Bool → Type 0
    by t u =
        Goes g (cond t (step g c d v) (as_given c d v))
        (cond u (step (straightened g) c (straight_drive d) (unskewed g v)) (as_given c (straight_drive d) (unskewed g v)))

    go : (t : Bool) → is_open d ≡ t → by (is_open d) (is_open (straight_drive d))
    go true e = subst₂ by (sym e) (sym (straight_open d ∙ e)) (goes g good c d st v size)
    go false e = subst₂ by (sym e) (sym (straight_open d ∙ e)) (record { same = refl; state = shut e; long = size })

open_spares : (c : Asked) (d : Drive) → StateOf floppy d → (v : List ℕ) → length v ≡ bytes floppy → SpareSame v (opened floppy c d v).volume
unfolding while_open
open_spares c d st v size = go (is_open d)
  where
    go : (t : Bool) → SpareSame v (cond t (step floppy c d v) (as_given c d v)).volume
    go true = step_spares c d st v size
    go false = spare_none v

-- ---- a cut: a drive that counts as closed makes no store
abbrev cut_from : ℕ → Asked → List ℕ → List ℕ → Sealed
cut_from most c s v = cut_at_seam most c.function c.parameter s v c.fcb c.buffer

cut_shut : (c : Asked) (s v : List ℕ) → is_open (decoded s) ≡ false → (most : ℕ) → ((cut_from most c s v).answer ≡ 32) × ((cut_from most c s v).volume ≡ v)
unfolding cut_at_seam answered
cut_shut c s v e most = rw e (go (eqb (length s) (drive_bytes (blocks_at s))))
  where
    go : (t : Bool) → ((cond t (refused_closed (zeros s) v c.fcb c.buffer) (refused_closed s v c.fcb c.buffer)).answer ≡ 32)
        × ((cond t (refused_closed (zeros s) v c.fcb c.buffer) (refused_closed s v c.fcb c.buffer)).volume ≡ v)
    go true = (refl, refl)
    go false = (refl, refl)

-- the bytes x stand for a state of the image v, and x' for the straight one of the unskewed volume v'; s and t were lent
module _ (g : Geometry) (good : lawful g ≡ true) (x v x' v' s t : List ℕ) (st : StateOf g (decoded x)) (long : length v ≡ bytes g)
    (drive_is : decoded x' ≡ straight_drive (decoded x)) (volume_is : v' ≡ unskewed g v)
    (e : length s ≡ drive_bytes (blocks g)) (e' : length t ≡ drive_bytes (blocks g)) (c : Asked) (most : ℕ) where
  cut_same : ((cut_from most c x' v').answer ≡ (cut_from most c x v).answer) × ((cut_from most c x' v').volume ≡ unskewed g (cut_from most c x v).volume)
  cut_same = go (is_open (decoded x)) refl st
    where
      go : (o : Bool) → is_open (decoded x) ≡ o → StateOf g (decoded x)
          → ((cut_from most c x' v').answer ≡ (cut_from most c x v).answer) × ((cut_from most c x' v').volume ≡ unskewed g (cut_from most c x v).volume)
      go true o (shut not-open) = absurd (true≢false (sym o ∙ not-open))
      go true o (has_geometry same) =
          let here = cut_open_lem g c x v o same s e most in
          let there
          = cut_open_lem (straightened g) c x' v' (ap is_open drive_is ∙ straight_open (decoded x) ∙ o)
          (ap (λ (d : Drive). d.geometry) drive_is ∙ straight_geometry g good (decoded x) same) t e' most in
          let k = each_call g good (decoded x) st v long c in
          let m = each_cut g good (decoded x) st v long c in (
            ap (λ (q : Sealed). q.answer) there
                ∙ (λ i. refused_by (step (straightened g) c (drive_is i) (volume_is i)).answer + 65536 * min most (length (stores_of c (drive_is i) (volume_is i))))
                ∙ (λ i. refused_by (k i).answer + 65536 * min most (length (m.stores_same i)))
                ∙ sym (ap (λ (q : Sealed). q.answer) here),
            ap (λ (q : Sealed). q.volume) there
                ∙ (λ i. cut (straightened g) (volume_is i) most (stores_of c (drive_is i) (volume_is i)))
                ∙ m.volume_same most
                ∙ sym (ap (λ (q : Sealed). unskewed g q.volume) here),
          )
      go false o st =
          let here = cut_shut c x v o most in
          let there = cut_shut c x' v' (ap is_open drive_is ∙ straight_open (decoded x) ∙ o) most in
          (there.0 ∙ sym here.0, there.1 ∙ volume_is ∙ ap (unskewed g) (sym here.1))

cut_keeps : (x v s : List ℕ) → StateOf floppy (decoded x) → length v ≡ bytes floppy → length s ≡ drive_bytes (blocks floppy) → (c : Asked) (most : ℕ)
    → SpareSame v (cut_from most c x v).volume
cut_keeps x v s st long e c most = go (is_open (decoded x)) refl st
  where
    go : (o : Bool) → is_open (decoded x) ≡ o → StateOf floppy (decoded x) → SpareSame v (cut_from most c x v).volume
    go true o (shut not-open) = absurd (true≢false (sym o ∙ not-open))
    go true o (has_geometry same) =
        subst (SpareSame v) (sym (ap (λ (q : Sealed). q.volume) (cut_open_lem floppy c x v o same s e most))) (cut_spares c most (decoded x) st v long)
    go false o st = subst (SpareSame v) (sym (cut_shut c x v o most).1) (spare_none v)

-- ---- the run: log-in, and then the calls
module _ (g : Geometry) (good : lawful g ≡ true) (v : List ℕ) (size : length v ≡ bytes g) where
  abbrev o : Outcome
  o = step g logs_in closed v

  log_in_goes : Goes g o (step (straightened g) logs_in closed (unskewed g v))
  log_in_goes =
      subst (λ (d : Drive). Goes g o (step (straightened g) logs_in d (unskewed g v))) straight_closed
      (goes g good logs_in closed (shut closed_is_shut) v size)

  calls_go : (cs : List Asked) → RunGoes opened g cs o.drive v
  calls_go cs = run_goes opened g (open_goes g good) cs o.drive log_in_goes.state v size

  module _ (s t : List ℕ) (e : length s ≡ drive_bytes (blocks g)) (e' : length t ≡ drive_bytes (blocks g)) (cs : List Asked) (small : FromC cs) where
    run_same : SeamAsUnskewed g v s t cs
    run_same =
        let here = seam_runs_on_any g v s e cs small in
        let there = seam_runs_on_any (straightened g) (unskewed g v) t e' cs small in
        let first = log_in_goes.same in
        let run = calls_go cs in
        let calls = run.as_unskewed in
        let volume_is : volume_left (straightened g) (unskewed g v) t cs ≡ unskewed g (volume_left g v s cs)
        = there.volume_is
        ∙ (λ i. final (opened (straightened g)) cs (first i).drive (unskewed g v))
        ∙ calls.volume_same
        ∙ ap (unskewed g) (sym here.volume_is) in
        let state_is : decoded (drive_left (straightened g) (unskewed g v) t cs) ≡ straight_drive (decoded (drive_left g v s cs))
        = there.state_is
        ∙ (λ i. final_state (opened (straightened g)) cs (first i).drive (unskewed g v))
        ∙ calls.state_same
        ∙ ap straight_drive (sym here.state_is) in
        let state : StateOf g (decoded (drive_left g v s cs)) = subst (StateOf g) (sym here.state_is) run.state in
        let long : length (volume_left g v s cs) ≡ bytes g = ap length here.volume_is ∙ run.long in
        let cuts
        = cut_same g good (drive_left g v s cs) (volume_left g v s cs)
        (drive_left (straightened g) (unskewed g v) t cs) (volume_left (straightened g) (unskewed g v) t cs) s t state long state_is volume_is e e' in
        record {
          seen_same =
              there.shows
              ∙ (λ i. map in_numbers (seen (first i) ∷ answers (opened (straightened g)) cs (first i).drive (unskewed g v)))
              ∙ ap (λ (l : List Seen). map in_numbers (seen o ∷ l)) calls.seen_same
              ∙ sym here.shows;
          volume_same = volume_is;
          state_same = state_is;
          cut_answer_same = λ c most. (cuts c most).0;
          cut_volume_same = λ c most. (cuts c most).1;
        }

pub each_run_at_seam : EachRunAtSeam
each_run_at_seam g good v size s t e e' cs small = run_same g good v size s t e e' cs small

pub spare_kept_at_seam : SpareKeptAtSeam
spare_kept_at_seam v size s e cs small =
    let here = seam_runs_on_any floppy v s e cs small in
    let first = log_in_goes floppy floppy_lawful v size in
    let run = calls_go floppy floppy_lawful v size cs in
    let end : SpareSame v (volume_left floppy v s cs)
    = subst (SpareSame v) (sym here.volume_is)
    (run_spares opened (open_goes floppy floppy_lawful) open_spares cs (step floppy logs_in closed v).drive first.state v size) in
    let state : StateOf floppy (decoded (drive_left floppy v s cs)) = subst (StateOf floppy) (sym here.state_is) run.state in
    let long : length (volume_left floppy v s cs) ≡ bytes floppy = ap length here.volume_is ∙ run.long in
    record {
      at_end = end;
      where_cut = λ c most. spare_then end (cut_keeps (drive_left floppy v s cs) (volume_left floppy v s cs) s state long e c most);
    }
