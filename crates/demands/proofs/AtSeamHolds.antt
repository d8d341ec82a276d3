-- A run at the seam is a run at the door: the drive's bytes carry the state from call to call (`Faithful`), so each call is
-- given the state that the last returned.
use mathlib.Core.Path.{◌≡◌, refl, sym, ap, ap₂, ◌∙◌, subst}
use mathlib.Core.Bool.{Bool, true, false, ◌&&◌, ◌||◌, and-false}
use mathlib.Core.Logic.{⊎_elim}
use mathlib.Core.List.{List, [], ◌∷◌, map}
use Prim.Native.Nat.{ℕ, ◌<◌}
use lib.ListN.{length}
use borrow.Author.Tests.{eq-eqb}
use Rattle.disk_geometry.specs.declared.Geometry.{Geometry}
use Rattle.disk_geometry.specs.Geometry.{lawful, bytes, slots, blocks}
use Rattle.call_answers.specs.Answer.{succeeded}
use Rattle.disk_rules.specs.GoodSlot.{lowest_bad}
use Rattle.filecalls.specs.declared.Drive.{Drive}
use Rattle.filecalls.specs.declared.Reply.{Reply}
use Rattle.filecalls.specs.Outcome.{Outcome}
use Rattle.filecalls.specs.State.{is_open, closed}
use Rattle.filecalls.specs.LogIn.{log_in}
use Rattle.call_served.specs.declared.Call.TheVariants.{LogIn}
use Rattle.bdos.specs.Step.{does, step}
use Rattle.call_served.specs.Asked.{Asked}
use Rattle.call_served.specs.Calls.{call_of}
use Rattle.drive_bytes.specs.Layout.{drive_bytes, decoded}
use Rattle.drive_bytes.specs.RoundTrip.{Carried}
use Rattle.drive_bytes.proofs.LentLaws.{open_length}
use Rattle.seam_words.specs.Answered.{answered}
use Rattle.seam_calls.specs.Seam.{Sealed, through, at_seam, log_in_at_seam}
use Rattle.churawel.proofs.LastingLaws.{Lasts}
use Rattle.churawel.proofs.FaithfulHolds.{log_in_carried, log_in_opens, log_in_geometry, log_in_faithful, step_lasts, step_log_in, step_back, call_carried, call_geometry}
use Rattle.demands.specs.Run.{Seen, seen, answers, final, final_state}
use Rattle.demands.specs.AtSeam.{SeenAtSeam, seen_at_seam, in_numbers, call_at_seam, succeeded_in, answers_at_seam, final_at_seam, drive_at_seam, touched_at_seam, FromC, logs_in, volume_left, Runs, SeamRuns, Demand3AtSeam, AlwaysReady, while_open, SeamRunsOnAny}
use Rattle.demands.specs.Demand3.{BytesLent, touches, touched}
use Rattle.demands.specs.Demand1.{call}
use Rattle.demands.proofs.Inspected.{accepted_sound}
use Rattle.demands.proofs.Acts.{Consistent}
use Rattle.demands.proofs.CallsKeep.{log_in_is, logged_in_lem}
use Rattle.demands.proofs.Demand3Holds.{step_keeps, demand3}
use Rattle.demands.proofs.AlwaysHolds.{always_sound}
use Rattle.demands.proofs.NumberTells.{closed_told, success_told, low_half, high_half}

-- ---- the drive's bytes s carry the state d, whose geometry is that of the log-in while it is open
record Carry (g : Geometry) (s : List ℕ) (d : Drive) : Type 0 where
  read : decoded s ≡ d
  carried : Carried d
  own : is_open d ≡ true → d.geometry ≡ g

-- what one call leaves, at the seam and at the door
record Same (g : Geometry) (c : Asked) (o : Sealed) (w : Outcome) : Type 0 where
  succeeds : succeeded_in c o ≡ succeeded w.answer
  sees : seen_at_seam o ≡ in_numbers (seen w)
  volume : o.volume ≡ w.volume
  drive : Carry g o.drive w.drive

-- a call from an open drive
pub call_is_step : (c : Asked) (s v : List ℕ) → is_open (decoded s) ≡ true → call_at_seam c s v ≡ through s (step (decoded s).geometry c (decoded s) v)
unfolding at_seam
call_is_step c s v o = rw o

-- by the number C can tell whether it succeeded
pub through_told : (s : List ℕ) (g : Geometry) (c : Asked) (d : Drive) (v : List ℕ) → succeeded_in c (through s (step g c d v)) ≡ succeeded (step g c d v).answer
through_told s g c d v = rw (low_half g c d v, high_half g c d v) (success_told g c d v)

-- a call at the door, from an open state that is carried in bytes of its length
door_same : (c : Asked) → c.parameter < 256 → (s : List ℕ) (d : Drive) (v : List ℕ) → length s ≡ drive_bytes (blocks d.geometry) → Carried d → is_open d ≡ true
    → Same d.geometry c (through s (step d.geometry c d v)) (step d.geometry c d v)
door_same c small s d v size k o =
    record {
      succeeds = through_told s d.geometry c d v;
      sees = refl;
      volume = refl;
      drive = record { read = step_back d k o c small v s size; carried = call_carried d k o c small v; own = call_geometry d c v };
    }

module _ (g : Geometry) (c : Asked) (small : c.parameter < 256) (s : List ℕ) (d : Drive) (v : List ℕ) (k : Carry g s d) where
  open_same : is_open d ≡ true → Same g c (call_at_seam c s v) (while_open (step g) c d v)
  unfolding at_seam while_open
  open_same o =
      let size : length s ≡ drive_bytes (blocks d.geometry) = rw k.read at (open_length s (ap is_open k.read ∙ o)) in
      rw (k.read, o)
      (subst (λ (x : Geometry). Same x c (through s (step d.geometry c d v)) (step x c d v)) (k.own o) (door_same c small s d v size k.carried o))

  closed_same : is_open d ≡ false → Same g c (call_at_seam c s v) (while_open (step g) c d v)
  unfolding at_seam while_open
  closed_same o = rw (k.read, o) (record { succeeds = closed_told (call c); sees = refl; volume = refl; drive = k })

  call_same : Same g c (call_at_seam c s v) (while_open (step g) c d v)
  call_same = go (is_open d) refl
    where
      go : (t : Bool) → is_open d ≡ t → Same g c (call_at_seam c s v) (while_open (step g) c d v)
      go true o = open_same o
      go false o = closed_same o

-- ---- calls
record SameRun (g : Geometry) (s : List ℕ) (d : Drive) (v : List ℕ) (cs : List Asked) : Type 0 where
  sees : answers_at_seam cs s v ≡ map in_numbers (answers (while_open (step g)) cs d v)
  volume : final_at_seam cs s v ≡ final (while_open (step g)) cs d v
  drive : decoded (drive_at_seam cs s v) ≡ final_state (while_open (step g)) cs d v
  files : (u : ℕ) (name : List ℕ) → touched_at_seam cs s v u name ≡ touched (while_open (step g)) cs d v u name

same_run : (g : Geometry) (s : List ℕ) (d : Drive) (v : List ℕ) (cs : List Asked) → FromC cs → Carry g s d → SameRun g s d v cs
unfolding answers_at_seam final_at_seam drive_at_seam touched_at_seam answers final final_state touched
same_run g s d v [] small k = record { sees = refl; volume = refl; drive = k.read; files = λ u name. refl }
same_run g s d v (c ∷ cs) small k =
    let one = call_same g c small.0 s d v k in
    let rest = same_run g (call_at_seam c s v).drive (while_open (step g) c d v).drive (while_open (step g) c d v).volume cs small.2 one.drive in
    record {
      sees = ap₂ {C = List SeenAtSeam} (λ a l. a ∷ l) one.sees (rw one.volume rest.sees);
      volume = rw one.volume rest.volume;
      drive = rw one.volume rest.drive;
      files = λ u name. ap₂ ◌||◌ (ap₂ ◌&&◌ one.succeeds (ap (λ (x : Drive). touches c x u name) k.read)) (rw one.volume (rest.files u name));
    }

-- ---- log-in first
log_in_carry : (g : Geometry) (v s : List ℕ) → length s ≡ drive_bytes (blocks g) → Carry g (log_in_at_seam g v s).drive (log_in g v).drive
log_in_carry g v s e = record { read = log_in_faithful g v s e; carried = log_in_carried g v; own = log_in_geometry g v }

pub seam_runs_on_any : SeamRunsOnAny
unfolding log_in_at_seam step does call_of
seam_runs_on_any g v s e cs small =
    let run = same_run g (log_in_at_seam g v s).drive (log_in g v).drive v cs small (log_in_carry g v s e) in
    record {
      shows = ap₂ {C = List SeenAtSeam} (λ a l. a ∷ l) (rw (eq-eqb (length s) (drive_bytes (blocks g)) e)) run.sees;
      volume_is = run.volume;
      state_is = run.drive;
      touches_are = run.files;
    }

-- ---- on a volume that passes inspection every log-in accepts, so the drive stays open
lasts_after : (c : Asked) → c.parameter < 256 → (d : Drive) (v : List ℕ) → Lasts d → Consistent d v → Lasts (step d.geometry c d v).drive
lasts_after c small d v l k = ⊎_elim again (λ x. x) (step_lasts d l.carried l.opens c small v)
  where
    accepts : succeeded (log_in d.geometry v).answer ≡ true
    accepts = ap (λ (r : Reply). succeeded r.answer) (log_in_is d.geometry k.law v k.size k.sound)

    again : call_of c.function ≡ LogIn → Lasts (step d.geometry c d v).drive
    again e =
        rw (step_log_in d.geometry c d v e)
        (record { carried = log_in_carried d.geometry v; opens = log_in_opens d.geometry v accepts })

record StaysOpen (g : Geometry) (d : Drive) (v : List ℕ) (cs : List Asked) : Type 0 where
  sees : answers (while_open (step g)) cs d v ≡ answers (step g) cs d v
  volume : final (while_open (step g)) cs d v ≡ final (step g) cs d v
  state : final_state (while_open (step g)) cs d v ≡ final_state (step g) cs d v
  files : (u : ℕ) (name : List ℕ) → touched (while_open (step g)) cs d v u name ≡ touched (step g) cs d v u name
  lasts : Lasts (final_state (step g) cs d v)
  geometry : (final_state (step g) cs d v).geometry ≡ g

while_open_lem : (g : Geometry) (c : Asked) (d : Drive) (v : List ℕ) → is_open d ≡ true → while_open (step g) c d v ≡ step g c d v
unfolding while_open
while_open_lem g c d v o = rw o

stays_open : (g : Geometry) (d : Drive) (v : List ℕ) (cs : List Asked) → d.geometry ≡ g → Lasts d → Consistent d v → FromC cs → StaysOpen g d v cs
unfolding answers final final_state touched
stays_open g d v [] same l k small = record { sees = refl; volume = refl; state = refl; files = λ u name. refl; lasts = l; geometry = same }
stays_open g d v (c ∷ cs) same l k small =
    let keeps = step_keeps g c d v same k small.1 in
    let next = subst (λ (x : Geometry). Lasts (step x c d v).drive) same (lasts_after c small.0 d v l k) in
    let rest = stays_open g (step g c d v).drive (step g c d v).volume cs (keeps.geometry ∙ same) next keeps.consistent small.2 in
    let e = while_open_lem g c d v l.opens in
    record {
      sees = rw e (ap {B = List Seen} (λ l. seen (step g c d v) ∷ l) rest.sees);
      volume = rw e rest.volume;
      state = rw e rest.state;
      files = λ u name. rw e (ap (λ (t : Bool). (succeeded (step g c d v).answer && touches c d u name) || t) (rest.files u name));
      lasts = rest.lasts;
      geometry = rest.geometry;
    }

-- a run at the seam and at the door, on a volume that passes inspection
module _ (g : Geometry) (law : lawful g ≡ true) (v : List ℕ) (size : length v ≡ bytes g) (ok : lowest_bad g v ≡ slots g) (s : List ℕ) (e : length s ≡ drive_bytes (blocks g))
    (cs : List Asked) (small : FromC cs) where
  after_log_in_lem : StaysOpen g (log_in g v).drive v cs
  after_log_in_lem =
      let sound = accepted_sound g v ok in
      let is = log_in_is g law v size sound in
      let opens = log_in_opens g v (ap (λ (r : Reply). succeeded r.answer) is) in
      let kept = subst (λ (r : Reply). Consistent r.drive v) (sym is) (logged_in_lem g law v size sound) in
      stays_open g (log_in g v).drive v cs (log_in_geometry g v opens) (record { carried = log_in_carried g v; opens = opens }) kept small

  runs_step : Runs (step g) g v s cs
  unfolding step does call_of
  runs_step =
      let run = seam_runs_on_any g v s e cs small in
      let stays = after_log_in_lem in
      record {
        shows = run.shows ∙ ap (λ (l : List Seen). map in_numbers (seen (step g logs_in closed v) ∷ l)) stays.sees;
        volume_is = run.volume_is ∙ stays.volume;
        state_is = run.state_is ∙ stays.state;
        touches_are = λ u name. run.touches_are u name ∙ stays.files u name;
      }

pub seam_runs : SeamRuns
seam_runs = runs_step

-- ---- the demands
pub is_log_in : call_of logs_in.function ≡ LogIn
unfolding call_of
is_log_in = refl

pub bytes_lent : (cs : List Asked) → FromC cs → BytesLent cs
bytes_lent [] small = tt
bytes_lent (c ∷ cs) small = (small.1, bytes_lent cs small.2)

pub log_in_answer : (g : Geometry) (v s : List ℕ) → length s ≡ drive_bytes (blocks g) → (log_in_at_seam g v s).answer ≡ answered (log_in g v).answer
unfolding log_in_at_seam
log_in_answer g v s e = rw (eq-eqb (length s) (drive_bytes (blocks g)) e)

-- log-in touches no file
log_in_touches : (g : Geometry) (v : List ℕ) (cs : List Asked) (u : ℕ) (name : List ℕ)
    → touched (step g) (logs_in ∷ cs) closed v u name ≡ touched (step g) cs (step g logs_in closed v).drive v u name
unfolding touched touches step does call_of
log_in_touches g v cs u name = rw (and-false (succeeded (log_in g v).answer))

pub demand3_at_seam : Demand3AtSeam
unfolding answers final step does call_of
demand3_at_seam g law v size ok s e cs small d =
    let run = runs_step g law v size ok s e cs small in
    let kept = demand3 g law v size ok logs_in is_log_in cs (bytes_lent cs small) closed d in
    let same : volume_left g v s cs ≡ final (step g) (logs_in ∷ cs) closed v = run.volume_is in
    record {
      shows_plain = run.shows ∙ ap (map in_numbers) kept.answers_same;
      kept = record {
        answers_same = kept.answers_same;
        volume_same = same ∙ kept.volume_same;
        length_kept = rw same kept.length_kept;
        inspected = rw same kept.inspected;
        others_present = λ u name u15 h n. rw same (kept.others_present u name u15 (log_in_touches g v cs u name ∙ sym (run.touches_are u name) ∙ h) n);
        others_bytes = λ u name u15 h n there. rw same (kept.others_bytes u name u15 (log_in_touches g v cs u name ∙ sym (run.touches_are u name) ∙ h) n there);
      };
      accepts_again = λ t q. rw same
          (log_in_answer g _ t q
          ∙ ap (λ (r : Reply). answered r.answer) (log_in_is g law _ (kept.length_kept ∙ size) (accepted_sound g _ kept.inspected)));
    }

pub always_ready : AlwaysReady
unfolding final final_state step does call_of
always_ready g law v size ok s e cs small =
    let run = runs_step g law v size ok s e cs small in
    let stays = after_log_in_lem g law v size ok s e cs small in
    record {
      opens = ap is_open run.state_is ∙ stays.lasts.opens;
      geometry_is = ap (λ (d : Drive). d.geometry) run.state_is ∙ stays.geometry;
      sound = rw (run.state_is, run.volume_is) (always_sound g law v size ok logs_in is_log_in cs (bytes_lent cs small) closed);
    }
