-- Demand 3 holds: after log-in the state is consistent with the volume, every call keeps it so (`does-keeps`), and a state
-- that is consistent answers as one whose held blocks were worked out from the directory (`does-alike`).
use mathlib.Core.Path.{◌≡◌, refl, sym, ap, ap₂, ◌∙◌, subst}
use mathlib.Core.Bool.{true, false, ◌&&◌, ◌||◌}
use mathlib.Core.List.{List, [], ◌∷◌}
use Prim.Native.Nat.{ℕ, ◌≤◌}
use lib.ListN.{length}
use Rattle.disk_geometry.specs.declared.Geometry.{Geometry}
use Rattle.disk_geometry.specs.Geometry.{lawful, bytes, slots}
use Rattle.disk_held.specs.Held.{free_count}
use Rattle.call_answers.specs.declared.Answer.TheVariants.{Ready}
use Rattle.call_answers.specs.Answer.{succeeded}
use Rattle.disk_rules.specs.GoodSlot.{lowest_bad}
use Rattle.disk_rules.specs.Named.{held_of}
use Rattle.disk_rules.proofs.AcceptedLaws.{one_place}
use Rattle.lists.proofs.BoolLaws.{or_parts}
use Rattle.filecalls.specs.declared.Drive.{Drive}
use Rattle.filecalls.specs.State.{logged_in}
use Rattle.filecalls.specs.Outcome.{Outcome, with_held}
use Rattle.call_served.specs.declared.Call.TheVariants.{LogIn}
use Rattle.bdos.specs.Step.{does, step}
use Rattle.call_served.specs.Asked.{Asked}
use Rattle.call_served.specs.Calls.{call_of}
use Rattle.demands.specs.Run.{Seen, seen, answers, final, plain}
use Rattle.numbers.specs.Numbers.{Bytes}
use Rattle.demands.specs.Demand3.{BytesLent, touches, touched, Kept, Demand3, AcceptsAgain, NoBlockTwice}
use Rattle.demands.proofs.Inspected.{accepted_sound, sound_accepted, held_of_lem}
use Rattle.demands.proofs.Acts.{Consistent, Leaves, StepKeeps}
use Rattle.demands.proofs.Alike.{Alike}
use Rattle.demands.proofs.Agree.{does_alike}
use Rattle.demands.proofs.CallsKeep.{log_in_is, logged_in_lem, does_keeps}

-- ---- one call
pub step_keeps : (g : Geometry) (c : Asked) (d : Drive) (v : List ℕ) → d.geometry ≡ g → Consistent d v → Bytes c.fcb
    → StepKeeps (λ u name. touches c d u name) d v (step g c d v)
unfolding step touches
step_keeps g c d v same k small = does_keeps g c.parameter d v c.fcb c.buffer same k small (call_of c.function)

plain_alike : (g : Geometry) (c : Asked) (d : Drive) (k v : List ℕ) → Consistent d v → Alike (step g c d v) (plain (step g) c (with_held d k) v)
unfolding step plain
plain_alike g c d k v s =
    does_alike d (held_of d.geometry v) v c.fcb c.buffer s
    (record { law = s.law; size = s.size; sound = s.sound; held = held_of_lem d.geometry v s.law })
    g (call_of c.function) c.parameter

seen_alike : {o p : Outcome} → Alike o p → seen o ≡ seen p
seen_alike a = λ i. record { answer = a.answer i; fcb = a.fcb i; buffer = a.buffer i }

-- ---- a run from a consistent state; the plain way's state differs at most in what it holds
runs : (g : Geometry) (cs : List Asked) (d : Drive) (k v : List ℕ) → d.geometry ≡ g → Consistent d v → BytesLent cs
    → Kept (step g) g v cs (with_held d k) (answers (step g) cs d v) (final (step g) cs d v) (touched (step g) cs d v)
unfolding answers final touched
runs g [] d k v same s small = record {
  answers_same = refl;
  volume_same = refl;
  length_kept = refl;
  inspected = rw (← same) (sound_accepted d.geometry v s.sound);
  others_present = λ u name u15 h n. refl;
  others_bytes = λ u name u15 h n there. refl;
}
runs g (c ∷ cs) d k v same s small =
    let keeps = step_keeps g c d v same s small.0 in
    let alike = plain_alike g c d k v s in
    let d' = (step g c d v).drive in
    let v' = (step g c d v).volume in
    let k' = (plain (step g) c (with_held d k) v).drive.held in
    let rest = runs g cs d' k' v' (keeps.geometry ∙ same) keeps.consistent small.1 in
    let here : (u : ℕ) (name : List ℕ) → u ≤ 15 → ((succeeded (step g c d v).answer && touches c d u name) || touched (step g) cs d' v' u name) ≡ false → Leaves g v v' u name
    = λ u name u15 h. subst (λ (x : Geometry). Leaves x v v' u name) same (keeps.others u name u15 (or_parts (succeeded (step g c d v).answer && touches c d u name) (touched (step g) cs d' v' u name) h).0) in
    let later : (u : ℕ) (name : List ℕ) → ((succeeded (step g c d v).answer && touches c d u name) || touched (step g) cs d' v' u name) ≡ false → touched (step g) cs d' v' u name ≡ false
    = λ u name h. (or_parts (succeeded (step g c d v).answer && touches c d u name) (touched (step g) cs d' v' u name) h).1 in
    record {
      answers_same = ap₂ {C = List Seen} (λ a l. a ∷ l) (seen_alike alike) (rest.answers_same ∙ ap₂ (answers (plain (step g)) cs) (sym alike.drive) alike.volume);
      volume_same = rest.volume_same ∙ ap₂ (final (plain (step g)) cs) (sym alike.drive) alike.volume;
      length_kept = rest.length_kept ∙ keeps.consistent.size ∙ ap bytes keeps.geometry ∙ sym s.size;
      inspected = rest.inspected;
      others_present = λ u name u15 h n. rest.others_present u name u15 (later u name h) n ∙ (here u name u15 h).presence n;
      others_bytes = λ u name u15 h n there.
          rest.others_bytes u name u15 (later u name h) n ((here u name u15 h).presence n ∙ there) ∙ (here u name u15 h).contents n there;
    }

-- ---- log-in first
module _ (g : Geometry) (law : lawful g ≡ true) (v : List ℕ) (size : length v ≡ bytes g) (ok : lowest_bad g v ≡ slots g)
    (login : Asked) (first : call_of login.function ≡ LogIn) where
  -- what it leaves, by either way and from any state
  abbrev pub ready : Outcome
  ready = record {
    answer = Ready (free_count (held_of g v) g.directory_blocks g.blocks);
    drive = logged_in g (held_of g v);
    volume = v;
    fcb = login.fcb;
    buffer = login.buffer;
  }

  pub starts : (d : Drive) → step g login d v ≡ ready
  unfolding step does
  starts d = rw (first, log_in_is g law v size (accepted_sound g v ok))

  starts_plain : (e : Drive) → plain (step g) login e v ≡ ready
  unfolding plain
  starts_plain e = starts (with_held e (held_of e.geometry v))

-- any list of calls that begins with log-in
pub demand3 : Demand3
unfolding answers final touched
demand3 g law v size ok login first cs small d e =
    let a = starts g law v size ok login first d in
    let b = starts_plain g law v size ok login first e in
    let s = logged_in_lem g law v size (accepted_sound g v ok) in
    let r = runs g cs (logged_in g (held_of g v)) (held_of g v) v refl s small in
    let rest : (u : ℕ) (name : List ℕ)
    → ((succeeded (step g login d v).answer && touches login d u name) || touched (step g) cs (step g login d v).drive (step g login d v).volume u name) ≡ false
    → touched (step g) cs (logged_in g (held_of g v)) v u name ≡ false
    = λ u name h. (rw a at (or_parts (succeeded (step g login d v).answer && touches login d u name) (touched (step g) cs (step g login d v).drive (step g login d v).volume u name) h).1) in
    record {
      answers_same = rw (a, b) (ap {B = List Seen} (λ l. seen (ready g law v size ok login first) ∷ l) r.answers_same);
      volume_same = rw (a, b) r.volume_same;
      length_kept = rw a r.length_kept;
      inspected = rw a r.inspected;
      others_present = λ u name u15 h n. rw a (r.others_present u name u15 (rest u name h) n);
      others_bytes = λ u name u15 h n there. rw a (r.others_bytes u name u15 (rest u name h) n there);
    }

-- the volume has its length and passes inspection, so a further log-in accepts
pub accepts_again : AcceptsAgain
accepts_again g law v size ok login first cs small d again last e =
    let kept = demand3 g law v size ok login first cs small d d in
    ap (λ (o : Outcome). o.answer) (starts g law _ (kept.length_kept ∙ size) kept.inspected again last e)

-- no block belongs to two entries: the list is any, so this is so after each of its calls
pub no_block_twice : NoBlockTwice
no_block_twice g law v size ok login first cs small d = record {
  one_place = λ i j p q i< j< li lj p< q< nz same.
      one_place g (final (step g) (login ∷ cs) d v) (demand3 g law v size ok login first cs small d d).inspected i p j q
      (record { slot = i<; used = li; place = p< }) (record { slot = j<; used = lj; place = q< }) nz same;
}
