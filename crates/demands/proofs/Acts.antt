-- What every call is shown to keep: state and volume stay consistent, and a file that the call does not name stays as it is.
use mathlib.Core.Path.{◌≡◌, refl}
use mathlib.Core.Bool.{Bool, true, false, cond, ◌&&◌}
use mathlib.Core.List.{List, []}
use Prim.Native.Nat.{ℕ, ◌≤◌}
use native.Mathlib.Omega.{arith}
use lib.ListN.{length}
use Rattle.disk_geometry.specs.declared.Geometry.{Geometry}
use Rattle.disk_geometry.specs.Geometry.{lawful, bytes}
use Rattle.disk_volume.specs.Directory.{slot_at}
use Rattle.disk_volume.specs.Record.{present}
use Rattle.disk_stores.specs.Stores.{Store, laid, cut}
use Rattle.disk_stores.specs.Order.{ends, Ordered, directory}
use Rattle.disk_stores.proofs.LaidLaws.{cut_enough}
use Rattle.disk_stores.proofs.CodeLaws.{cut_none}
use Rattle.call_answers.specs.declared.Refusal.{Refusal}
use Rattle.call_answers.specs.Refusal.{Test, is_none, first_met}
use Rattle.call_answers.specs.Answer.{succeeded}
use Rattle.call_read.specs.Read.{read_bytes}
use Rattle.filecalls.specs.declared.Drive.{Drive}
use Rattle.filecalls.specs.declared.KeptSearch.{KeptSearch}
use Rattle.filecalls.specs.Outcome.{Change, keeps, searches, Act, deny, done, act_stores, unless, changed_state, Outcome, outcome}
use Rattle.filecalls.proofs.OutcomeLaws.{same_geometry}
use Rattle.demands.proofs.Orderly.{Orderly, Held}
use Rattle.demands.proofs.Frame.{Apart, present_same, bytes_same}

-- the invariant of a run
pub record Consistent (d : Drive) (v : List ℕ) : Type 0 where
  pub law : lawful d.geometry ≡ true
  pub size : length v ≡ bytes d.geometry
  pub sound : Orderly d.geometry (slot_at d.geometry v)
  pub held : Held d.geometry d.held (slot_at d.geometry v)

-- the file has the same records present with the same bytes
pub record Leaves (g : Geometry) (v v' : List ℕ) (u : ℕ) (name : List ℕ) : Type 0 where
  pub presence : (n : ℕ) → present g v' u name n ≡ present g v u name n
  pub contents : (n : ℕ) → present g v u name n ≡ true → read_bytes g v' u name n ≡ read_bytes g v u name n

pub leaves_all : {g : Geometry} {v : List ℕ} {u : ℕ} {name : List ℕ} → Leaves g v v u name
leaves_all = record { presence = λ n. refl; contents = λ n h. refl }

pub leaves_apart : (g : Geometry) (law : lawful g ≡ true) (u : ℕ) (name v v' : List ℕ) → Apart g u name v v' → Leaves g v v' u name
leaves_apart g law u name v v' a = record { presence = present_same g law u name v v' a; contents = bytes_same g law u name v v' a }

-- a volume left half done, by the files that the call touches: it has its length, the directory is sound, and each other file
-- is as it was
pub record Safe (touches : ℕ → List ℕ → Bool) (g : Geometry) (v w : List ℕ) : Type 0 where
  pub same_size : length w ≡ length v
  pub sound : Orderly g (slot_at g w)
  pub others : (u : ℕ) (name : List ℕ) → u ≤ 15 → touches u name ≡ false → Leaves g v w u name

pub safe_none : {touches : ℕ → List ℕ → Bool} {d : Drive} {v : List ℕ} → Consistent d v → Safe touches d.geometry v v
safe_none c = record { same_size = refl; sound = c.sound; others = λ u name u15 h. leaves_all }

-- every cut of no store; and all stores laid down are the last cut
pub cuts_none : {touches : ℕ → List ℕ → Bool} {d : Drive} {v : List ℕ} → Consistent d v → (k : ℕ) → Safe touches d.geometry v (cut d.geometry v k [])
cuts_none {touches} {d} {v} c k = rw (cut_none d.geometry v k) (safe_none c)

pub safe_laid : {touches : ℕ → List ℕ → Bool} {g : Geometry} {v : List ℕ} (ss : List Store) → ((k : ℕ) → Safe touches g v (cut g v k ss)) → Safe touches g v (laid g v ss)
safe_laid {touches} {g} {v} ss cuts = rw (cut_enough g v ss (length ss) (omega arith)) at (cuts (length ss))

-- ---- an act, by the files that its call touches: what all its stores leave is consistent with the state, and each cut of
-- them is safe
pub record Done (touches : ℕ → List ℕ → Bool) (d : Drive) (v : List ℕ) (change : Change) (stores : List Store) : Type 0 where
  pub consistent : Consistent (changed_state d v change) (laid d.geometry v stores)
  pub cuts : (k : ℕ) → Safe touches d.geometry v (cut d.geometry v k stores)
  pub ordered : Ordered d.geometry stores

pub data Keeps (touches : ℕ → List ℕ → Bool) (d : Drive) (v : List ℕ) : Act → Type 0 where
  denied : {why : Refusal} → Keeps touches d v (deny why)
  does : {code : ℕ} {change : Change} {stores : List Store} {f b : List ℕ} → Done touches d v change stores → Keeps touches d v (done code change stores f b)

pub keeps_unless : {touches : ℕ → List ℕ → Bool} {d : Drive} {v : List ℕ} (ts : List Test) (act : Act)
    → (is_none (first_met ts) ≡ true → Keeps touches d v act) → Keeps touches d v (unless ts act)
unfolding unless
keeps_unless {touches} {d} {v} ts act h = go (is_none (first_met ts)) refl
  where
    go : (t : Bool) → is_none (first_met ts) ≡ t → Keeps touches d v (cond (is_none (first_met ts)) act (deny (first_met ts)))
    go true e = rw e (h e)
    go false e = rw e denied

-- all of a call's stores laid down: the volume that it leaves
pub act_laid : (d : Drive) (v f b : List ℕ) (act : Act) → laid d.geometry v (act_stores act) ≡ (outcome d v f b act).volume
unfolding outcome laid
act_laid d v f b (deny why) = refl
act_laid d v f b (done code change stores f' b') = refl

-- the stores of a call, refused or not
pub keeps_cuts : {touches : ℕ → List ℕ → Bool} {d : Drive} {v : List ℕ} {act : Act} → Consistent d v → Keeps touches d v act
    → (k : ℕ) → Safe touches d.geometry v (cut d.geometry v k (act_stores act))
keeps_cuts c denied k = cuts_none c k
keeps_cuts c (does x) k = x.cuts k

pub keeps_ordered : {touches : ℕ → List ℕ → Bool} {d : Drive} {v : List ℕ} {act : Act} → Keeps touches d v act → Ordered d.geometry (act_stores act)
keeps_ordered denied = directory [] (ends 0)
keeps_ordered (does x) = x.ordered

-- ---- acts that store nothing, and change neither geometry nor held blocks
module _ (touches : ℕ → List ℕ → Bool) (d : Drive) (v : List ℕ) (c : Consistent d v) where
  pub still : Done touches d v keeps []
  unfolding changed_state laid
  still = record { consistent = c; cuts = cuts_none c; ordered = directory [] (ends 0) }

  pub still_search : (q : KeptSearch) → Done touches d v (searches q) []
  unfolding changed_state laid
  still_search q = record {
    consistent = record { law = c.law; size = c.size; sound = c.sound; held = c.held };
    cuts = cuts_none c;
    ordered = directory [] (ends 0);
  }

-- ---- all that a call leaves
pub record StepKeeps (touches : ℕ → List ℕ → Bool) (d : Drive) (v : List ℕ) (o : Outcome) : Type 0 where
  pub consistent : Consistent o.drive o.volume
  pub geometry : o.drive.geometry ≡ d.geometry
  pub others : (u : ℕ) (name : List ℕ) → u ≤ 15 → (succeeded o.answer && touches u name) ≡ false → Leaves d.geometry v o.volume u name

pub outcome_keeps : (touches : ℕ → List ℕ → Bool) (d : Drive) (v f b : List ℕ) (act : Act) → Consistent d v → Keeps touches d v act → StepKeeps touches d v (outcome d v f b act)
unfolding outcome
outcome_keeps touches d v f b (deny why) c denied = record { consistent = c; geometry = refl; others = λ u name l h. leaves_all }
outcome_keeps touches d v f b (done code change stores f' b') c (does k) = record { consistent = k.consistent; geometry = same_geometry d v f b (done code change stores f' b'); others = λ u name l h. (safe_laid stores k.cuts).others u name l h }
