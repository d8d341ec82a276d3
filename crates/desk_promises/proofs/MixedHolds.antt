-- Runs that mix calls and replacements: each call keeps the invariant of demand 3 and the files that it does not name
-- (`step_keeps`), and so does each replacement, because it leaves the directory and alters records of its own file alone.
use mathlib.Core.Path.{◌≡◌, refl, sym, ap, ◌∙◌, subst}
use mathlib.Core.Bool.{Bool, true, false, ◌&&◌, ◌||◌, true≢false}
use mathlib.Core.List.{List, [], ◌∷◌}
use Prim.Native.Nat.{ℕ, ◌≤◌, ◌<◌}
use lib.Dec.{eqb}
use lib.Seq.{ext_get_or}
use borrow.Author.Tests.{eq-eqb}
use Rattle.disk_geometry.specs.declared.Geometry.{Geometry}
use Rattle.disk_geometry.specs.Geometry.{bytes, slots}
use Rattle.disk_volume.specs.Name.{name_of, same}
use Rattle.disk_volume.specs.Entry.{Entry, is_empty, block_in}
use Rattle.disk_volume.specs.Directory.{slot_at}
use Rattle.disk_volume.proofs.NameLaws.{same_refl}
use Rattle.disk_rules.specs.GoodSlot.{lowest_bad}
use Rattle.disk_rules.specs.Named.{held_of}
use Rattle.call_read.specs.Read.{read_bytes}
use Rattle.lists.proofs.BoolLaws.{or_parts}
use Rattle.filecalls.specs.declared.Drive.{Drive}
use Rattle.filecalls.specs.State.{logged_in}
use Rattle.filecalls.specs.Outcome.{Outcome}
use Rattle.call_answers.specs.Answer.{succeeded}
use Rattle.demands.specs.Demand3.{touches}
use Rattle.std.specs.Prelude.{Result, Ok, Err}
use Rattle.desk.specs.declared.Why.{Why}
use Rattle.desk.specs.Replace.{replacement}
use Rattle.demands.proofs.Inspected.{accepted_sound, sound_accepted}
use Rattle.demands.proofs.Orderly.{Directory, Changed, held_changed}
use Rattle.demands.proofs.Acts.{Consistent, Leaves, leaves_all}
use Rattle.demands.proofs.CallsKeep.{logged_in_lem}
use Rattle.demands.proofs.Demand3Holds.{step_keeps, ready, starts}
use Rattle.desk_keeps.specs.Sigla.{Matches, Altered, Replaces}
use Rattle.desk_promises.specs.Mixed.{Deed, calls, replaces, drive_after, volume_after, was_done, names, ending, ending_state, named_in, LentTo, AllLent, MixedKept, MixedRuns, ColumnsInMixed}
use Rattle.desk_promises.proofs.ColumnsHold.{by_column}
use Rattle.desk_keeps.proofs.OfFiles.{bytes_length}
use Rattle.desk_keeps.proofs.ReplacesHolds as sigla

-- ---- one deed
pub record DeedKeeps (g : Geometry) (x : Deed) (d : Drive) (v : List ℕ) : Type 0 where
  pub consistent : Consistent (drive_after g x d v) (volume_after g x d v)
  pub geometry : (drive_after g x d v).geometry ≡ d.geometry
  pub others : (u : ℕ) (name : List ℕ) → u ≤ 15 → (was_done g x d v && names x d u name) ≡ false → Leaves d.geometry v (volume_after g x d v) u name

-- entries that are the same
same_directory : (g : Geometry) (e e' : Directory) → ((i : ℕ) → i < slots g → e' i ≡ e i) → Changed g e e'
same_directory g e e' is = record {
  empty = λ j j<. ap is_empty (is j j<);
  blocks = λ j p j< p<. ap (λ (x : Entry). block_in g x p) (is j j<);
  order = λ j j< l o. rw (is j j<) o;
  twins = λ i j i< j< li lj t. rw (is i i<, is j j<) at t;
}

-- a replacement that is not refused
module _ (d : Drive) (v fcb : List ℕ) (chapter old new : ℕ) (w : List ℕ) (c : Consistent d v) (a : Altered d v fcb (Matches d v fcb chapter old) new w) where
  was_good : lowest_bad d.geometry v ≡ slots d.geometry
  was_good = sound_accepted d.geometry v c.sound

  good : lowest_bad d.geometry w ≡ slots d.geometry
  good = a.inspected was_good

  altered_consistent : Consistent d w
  altered_consistent = record {
    law = c.law;
    size = a.length_stays ∙ c.size;
    sound = accepted_sound d.geometry w good;
    held = held_changed d.geometry d.held (slot_at d.geometry v) (slot_at d.geometry w) (same_directory d.geometry (slot_at d.geometry v) (slot_at d.geometry w) (λ i h. a.directory_stays i h)) c.held;
  }

  altered_leaves : (u : ℕ) (name : List ℕ) → u ≤ 15 → (eqb u d.user && same name (name_of fcb)) ≡ false → Leaves d.geometry v w u name
  altered_leaves u name u15 h = record {
    presence = a.presence_stays u name;
    contents = λ n there.
        let there-after = a.presence_stays u name n ∙ there in
        let lw = bytes_length d.geometry c.law w (a.length_stays ∙ c.size) good u name n u15 there-after in
        let lv = bytes_length d.geometry c.law v c.size was_good u name n u15 there in
        ext_get_or 0 (read_bytes d.geometry w u name n) (read_bytes d.geometry v u name n) (lw ∙ sym lv)
        (λ k k<. a.records_stay was_good u name u15 n there k (rw lw at k<) (λ x y m. absurd (true≢false (sym (hit x y) ∙ h))));
  }
    where
      hit : u ≡ d.user → name ≡ name_of fcb → (eqb u d.user && same name (name_of fcb)) ≡ true
      hit x y = rw (eq-eqb u d.user x, y) (same_refl (name_of fcb))

pub deed_keeps : (g : Geometry) (x : Deed) (d : Drive) (v : List ℕ) → d.geometry ≡ g → Consistent d v → LentTo x v → DeedKeeps g x d v
deed_keeps g (calls call) d v is-g c small =
    let k = step_keeps g call d v is-g c small in
    record { consistent = k.consistent; geometry = k.geometry; others = k.others }
deed_keeps g (replaces fcb chapter old new) d v is-g c small = go (replacement d v fcb chapter old new).answer refl
  where
    all : Replaces d v fcb chapter old new
    all = sigla.replaces d v fcb chapter old new small.0 small.1

    s : (replacement d v fcb chapter old new).drive ≡ d
    s = all.state_stays

    go : (r : Result ℕ Why) → (replacement d v fcb chapter old new).answer ≡ r → DeedKeeps g (replaces fcb chapter old new) d v
    go (Err why) e =
        let z = all.refused_keeps why e in
        record { consistent = rw (s, z) c; geometry = ap (λ (x : Drive). x.geometry) s; others = λ u name u15 h. rw z leaves_all }
    go (Ok n) e =
        let a = all.altered n e in
        record {
          consistent = rw s (altered_consistent d v fcb chapter old new _ c a);
          geometry = ap (λ (x : Drive). x.geometry) s;
          others = λ u name u15 h. altered_leaves d v fcb chapter old new _ c a u name u15 (rw e at h);
        }

-- ---- a run from a consistent state
pub runs : (g : Geometry) (xs : List Deed) (d : Drive) (v : List ℕ) → d.geometry ≡ g → Consistent d v → AllLent g xs d v
    → MixedKept g v (ending g xs d v) (named_in g xs d v)
unfolding ending named_in AllLent
runs g [] d v is-g c small = record {
  length_kept = refl;
  inspected = rw (← is-g) (sound_accepted d.geometry v c.sound);
  others_present = λ u name u15 h n. refl;
  others_bytes = λ u name u15 h n there. refl;
}
runs g (x ∷ xs) d v is-g c small =
    let keeps = deed_keeps g x d v is-g c small.0 in
    let d' = drive_after g x d v in
    let v' = volume_after g x d v in
    let rest = runs g xs d' v' (keeps.geometry ∙ is-g) keeps.consistent small.1 in
    let here : (u : ℕ) (name : List ℕ) → u ≤ 15 → ((was_done g x d v && names x d u name) || named_in g xs d' v' u name) ≡ false → Leaves g v v' u name
    = λ u name u15 h. subst (λ (y : Geometry). Leaves y v v' u name) is-g (keeps.others u name u15 (or_parts (was_done g x d v && names x d u name) (named_in g xs d' v' u name) h).0) in
    let later : (u : ℕ) (name : List ℕ) → ((was_done g x d v && names x d u name) || named_in g xs d' v' u name) ≡ false → named_in g xs d' v' u name ≡ false
    = λ u name h. (or_parts (was_done g x d v && names x d u name) (named_in g xs d' v' u name) h).1 in
    record {
      length_kept = rest.length_kept ∙ keeps.consistent.size ∙ ap bytes keeps.geometry ∙ sym c.size;
      inspected = rest.inspected;
      others_present = λ u name u15 h n. rest.others_present u name u15 (later u name h) n ∙ (here u name u15 h).presence n;
      others_bytes = λ u name u15 h n there.
          rest.others_bytes u name u15 (later u name h) n ((here u name u15 h).presence n ∙ there) ∙ (here u name u15 h).contents n there;
    }

-- at its end it is consistent again
stays : (g : Geometry) (xs : List Deed) (d : Drive) (v : List ℕ) → d.geometry ≡ g → Consistent d v → AllLent g xs d v
    → Consistent (ending_state g xs d v) (ending g xs d v)
unfolding ending ending_state AllLent
stays g [] d v is-g c small = c
stays g (x ∷ xs) d v is-g c small =
    let keeps = deed_keeps g x d v is-g c small.0 in
    stays g xs (drive_after g x d v) (volume_after g x d v) (keeps.geometry ∙ is-g) keeps.consistent small.1

-- ---- log-in first
-- files that are named by more
pub kept_by_more : {g : Geometry} {v w : List ℕ} {hit more : ℕ → List ℕ → Bool} → ((u : ℕ) (name : List ℕ) → more u name ≡ false → hit u name ≡ false)
    → MixedKept g v w hit → MixedKept g v w more
kept_by_more wider k = record {
  length_kept = k.length_kept;
  inspected = k.inspected;
  others_present = λ u name u15 h. k.others_present u name u15 (wider u name h);
  others_bytes = λ u name u15 h. k.others_bytes u name u15 (wider u name h);
}

pub mixed_runs : MixedRuns
unfolding ending named_in AllLent
mixed_runs g law v size ok login first xs d small =
    subst (λ (o : Outcome). AllLent g xs o.drive o.volume
    → MixedKept g v (ending g xs o.drive o.volume) (λ u name. (succeeded o.answer && touches login d u name) || named_in g xs o.drive o.volume u name))
    (sym (starts g law v size ok login first d))
    (λ lent. kept_by_more (λ u name. λ h. (or_parts (succeeded (ready g law v size ok login first).answer && touches login d u name) _ h).1)
    (runs g xs (logged_in g (held_of g v)) v refl (logged_in_lem g law v size (accepted_sound g v ok)) lent))
    small.1

pub columns_in_mixed : ColumnsInMixed
unfolding ending ending_state AllLent
columns_in_mixed g law v size ok login first xs d small bytes fcb chapter old new old16 new16 =
    by_column _ _ fcb chapter old new
    (subst (λ (o : Outcome). AllLent g xs o.drive o.volume → Consistent (ending_state g xs o.drive o.volume) (ending g xs o.drive o.volume))
    (sym (starts g law v size ok login first d))
    (stays g xs (logged_in g (held_of g v)) v refl (logged_in_lem g law v size (accepted_sound g v ok)))
    small.1)
    bytes old16 new16
