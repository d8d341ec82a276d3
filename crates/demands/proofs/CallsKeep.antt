-- Every call keeps state and volume consistent, and the geometry, and leaves every file that it does not touch.
use mathlib.Core.Path.{◌≡◌, refl}
use mathlib.Core.Bool.{Bool, true, false, cond}
use mathlib.Core.List.{List, [], ◌++◌}
use Prim.Native.Nat.{ℕ}
use native.Mathlib.Omega.{arith}
use lib.Dec.{eqb}
use lib.ListN.{length}
use borrow.Author.Tests.{eq-eqb, le-ltb}
use Rattle.disk_geometry.specs.declared.Geometry.{Geometry}
use Rattle.disk_geometry.specs.Geometry.{lawful, bytes, slots}
use Rattle.disk_volume.specs.Directory.{slot_at}
use Rattle.disk_volume.specs.Name.{name_of}
use Rattle.disk_held.specs.Held.{free_count}
use Rattle.call_fcb.specs.Fcb.{position, random}
use Rattle.call_answers.specs.declared.Refusal.{Refusal}
use Rattle.call_answers.specs.declared.Refusal.TheVariants.{NoGroup, Absent, NotServed}
use Rattle.call_answers.specs.declared.Answer.TheVariants as answer
use Rattle.call_answers.specs.Refusal.{Test, is_none, first_met}
use Rattle.disk_rules.specs.GoodSlot.{lowest_bad}
use Rattle.disk_rules.specs.Named.{held_of}
use Rattle.call_read.specs.Read.{read_tests}
use Rattle.filecalls.specs.declared.Drive.{Drive}
use Rattle.filecalls.specs.State.{logged_in}
use Rattle.filecalls.specs.LogIn.{log_in_tests, log_in}
use Rattle.filecalls.specs.Open.{open_tests, open_act, close_tests, close_act, size_tests, size_act}
use Rattle.filecalls.specs.Search.{first_tests, search_first_act, hit_act, next_tests, search_next_act}
use Rattle.filecalls.specs.Read.{sequential_tests, random_tests, read_done, read_sequential_act, read_random_act}
use Rattle.filecalls.specs.Small.{protect_tests, protect_act, user_tests, user_act, set_random_tests, set_random_act}
use Rattle.disk_stores.specs.Stores.{Store}
use Rattle.filecalls.specs.Outcome.{keeps, protects, becomes, Act, deny, done, unless, changed_state, Outcome, outcome, left}
use Rattle.filecalls.specs.Leaves.{read_sequential_leaves}
use Rattle.several.proofs.SeveralLaws.{read_refuses}
use Rattle.call_served.specs.declared.Call.{Call}
use Rattle.call_served.specs.declared.Call.TheVariants.{LogIn, Open, Close, SearchFirst, SearchNext, Delete, Make, Rename, Protect, Attributes, User, Size, SetRandom, Moves, Unserved}
use Rattle.call_served.specs.declared.Transfer.TheVariants.{ReadSequential, WriteSequential, ReadRandom, WriteRandom, WriteZeroFill, ReadSeveral, WriteSeveral}
use Rattle.bdos.specs.Step.{keeps_buffer, keeps_fcb, keeps_volume}
use Rattle.bdos.specs.Step as door
use Rattle.numbers.specs.Numbers.{Bytes}
use Rattle.demands.specs.Demand3.{names_file}
use Rattle.demands.proofs.Orderly.{Orderly}
use Rattle.demands.proofs.Inspected.{sound_accepted, held_of_lem}
use Rattle.demands.proofs.Acts.{Consistent, Keeps, denied, does, keeps_unless, still, still_search, StepKeeps, outcome_keeps, leaves_all}
use Rattle.demands.proofs.MakeKeeps.{make_keeps}
use Rattle.demands.proofs.WritesKeep.{write_sequential_keeps, write_random_keeps, write_zero_fill_keeps}
use Rattle.demands.proofs.SeveralKeeps.{several_keeps, write_several_keeps}
use Rattle.demands.proofs.DeleteKeeps.{delete_keeps}
use Rattle.demands.proofs.RenameKeeps.{rename_keeps}
use Rattle.demands.proofs.AttributesKeep.{attributes_keep}

-- ---- log-in of a volume that passes inspection
module _ (g : Geometry) (law : lawful g ≡ true) (v : List ℕ) (size : length v ≡ bytes g) (sound : Orderly g (slot_at g v)) where
  no_test : is_none (first_met (log_in_tests g v)) ≡ true
  unfolding log_in_tests first_met
  no_test = rw (law, eq-eqb (length v) (bytes g) size, le-ltb (lowest_bad g v) (slots g) (omega (arith, sound_accepted g v sound)))

  pub log_in_is : log_in g v ≡ record { answer = answer.Ready (free_count (held_of g v) g.directory_blocks g.blocks); drive = logged_in g (held_of g v) }
  unfolding log_in
  log_in_is = rw no_test

  pub logged_in_lem : Consistent (logged_in g (held_of g v)) v
  logged_in_lem = record { law = law; size = size; sound = sound; held = held_of_lem g v law }

-- ---- acts that store nothing
abbrev pub Nothing : ℕ → List ℕ → Bool
Nothing u name = false

module _ (d : Drive) (v f b : List ℕ) (c : Consistent d v) where
  open_keeps : Keeps Nothing d v (open_act d v f)
  unfolding open_act
  open_keeps = keeps_unless (open_tests d v f) _ (λ h. does (still Nothing d v c))

  close_keeps : Keeps Nothing d v (close_act d v f)
  unfolding close_act
  close_keeps = keeps_unless (close_tests d v f) _ (λ h. does (still Nothing d v c))

  size_keeps : Keeps Nothing d v (size_act d v f)
  unfolding size_act
  size_keeps = keeps_unless (size_tests d v f) _ (λ h. does (still Nothing d v c))

  first_keeps : Keeps Nothing d v (search_first_act d v f b)
  unfolding search_first_act hit_act
  first_keeps = keeps_unless (first_tests d v f b) _ (λ h. does (still_search Nothing d v c _))

  next_keeps : Keeps Nothing d v (search_next_act d v b)
  unfolding search_next_act hit_act
  next_keeps = keeps_unless (next_tests d v b) _ (λ h. does (still_search Nothing d v c _))

  pub read_sequential_keeps : Keeps Nothing d v (read_sequential_act d v f b)
  unfolding read_sequential_act read_done
  read_sequential_keeps =
      keeps_unless (sequential_tests d v f b ++ read_tests d.geometry v d.user (name_of f) (position f) Absent) _ (λ h. does (still Nothing d v c))

  read_random_keeps : Keeps Nothing d v (read_random_act d v f b)
  unfolding read_random_act read_done
  read_random_keeps =
      keeps_unless (random_tests d v f b ++ read_tests d.geometry v d.user (name_of f) (random f) NoGroup) _ (λ h. does (still Nothing d v c))

-- ---- acts that look at no volume: they change at most the user and the protection
data Small : Act → Type 0 where
  refuses : {why : Refusal} → Small (deny why)
  stays : {code : ℕ} {stores : List Store} {f b : List ℕ} → Small (done code keeps stores f b)
  guards : {code : ℕ} {stores : List Store} {f b : List ℕ} → Small (done code protects stores f b)
  changes : {code u : ℕ} {stores : List Store} {f b : List ℕ} → Small (done code (becomes u) stores f b)

small_unless : (ts : List Test) (act : Act) → Small act → Small (unless ts act)
unfolding unless
small_unless ts act s = go (is_none (first_met ts))
  where
    go : (t : Bool) → Small (cond t act (deny (first_met ts)))
    go true = s
    go false = refuses

small_keeps : (touches : ℕ → List ℕ → Bool) (d : Drive) (v w f b : List ℕ) (act : Act) → Consistent d v → Small act → StepKeeps touches d v (keeps_volume v (outcome d w f b act))
unfolding outcome changed_state
small_keeps touches d v w f b (deny why) c refuses = record { consistent = c; geometry = refl; others = λ u name l h. leaves_all }
small_keeps touches d v w f b (done code keeps stores f' b') c stays = record { consistent = c; geometry = refl; others = λ u name l h. leaves_all }
small_keeps touches d v w f b (done code protects stores f' b') c guards =
    record { consistent = record { law = c.law; size = c.size; sound = c.sound; held = c.held }; geometry = refl; others = λ u name l h. leaves_all }
small_keeps touches d v w f b (done code (becomes u) stores f' b') c changes =
    record { consistent = record { law = c.law; size = c.size; sound = c.sound; held = c.held }; geometry = refl; others = λ u name l h. leaves_all }
small_keeps touches d v w f b (done code (Rattle.filecalls.specs.Outcome.takes _ _) stores f' b') c x6 = elim x6 [ ]
small_keeps touches d v w f b (done code (Rattle.filecalls.specs.Outcome.frees _ _) stores f' b') c x7 = elim x7 [ ]
small_keeps touches d v w f b (done code (Rattle.filecalls.specs.Outcome.searches _) stores f' b') c x7 = elim x7 [ ]

protect_small : (d : Drive) → Small (protect_act d)
unfolding protect_act
protect_small d = small_unless (protect_tests d) _ guards

user_small : (d : Drive) (code : ℕ) → Small (user_act d code)
unfolding user_act
user_small d code = small_unless (user_tests d code) _ (go (eqb code 255))
  where
    go : (t : Bool) → Small (cond t (done d.user keeps [] [] []) (done 0 (becomes code) [] [] []))
    go true = stays
    go false = changes

set_random_small : (d : Drive) (f : List ℕ) → Small (set_random_act d f)
unfolding set_random_act
set_random_small d f = small_unless (set_random_tests d f) _ stays

-- ---- every call
buffer_kept : {touches : ℕ → List ℕ → Bool} {d : Drive} {v : List ℕ} {o : Outcome} (b : List ℕ) → StepKeeps touches d v o → StepKeeps touches d v (keeps_buffer b o)
buffer_kept b k = record { consistent = k.consistent; geometry = k.geometry; others = k.others }

fcb_kept : {touches : ℕ → List ℕ → Bool} {d : Drive} {v : List ℕ} {o : Outcome} (f : List ℕ) → StepKeeps touches d v o → StepKeeps touches d v (keeps_fcb f o)
fcb_kept f k = record { consistent = k.consistent; geometry = k.geometry; others = k.others }

log_in_keeps : (touches : ℕ → List ℕ → Bool) (d : Drive) (v f b : List ℕ) → Consistent d v → StepKeeps touches d v (left (log_in d.geometry v) v f b)
log_in_keeps touches d v f b c =
    rw (log_in_is d.geometry c.law v c.size c.sound)
    (record { consistent = logged_in_lem d.geometry c.law v c.size c.sound; geometry = refl; others = λ u name l h. leaves_all })

module _ (g : Geometry) (p : ℕ) (d : Drive) (v f b : List ℕ) (same : d.geometry ≡ g) (c : Consistent d v) (small : Bytes f) where
  pub does_keeps : (call : Call) → StepKeeps (λ u name. names_file call d.user f u name) d v (door.does g call p d v f b)
  unfolding door.does door.carries
  does_keeps LogIn = rw (← same) (log_in_keeps Nothing d v f b c)
  does_keeps Open = buffer_kept b (outcome_keeps Nothing d v f [] (open_act d v f) c (open_keeps d v f b c))
  does_keeps Close = buffer_kept b (outcome_keeps Nothing d v f [] (close_act d v f) c (close_keeps d v f b c))
  does_keeps SearchFirst = outcome_keeps Nothing d v f b (search_first_act d v f b) c (first_keeps d v f b c)
  does_keeps SearchNext = fcb_kept f (outcome_keeps Nothing d v [] b (search_next_act d v b) c (next_keeps d v f b c))
  does_keeps Delete = buffer_kept b (outcome_keeps _ d v f [] _ c (delete_keeps d v f c))
  does_keeps (Moves ReadSequential) = outcome_keeps Nothing d v f b (read_sequential_act d v f b) c (read_sequential_keeps d v f b c)
  does_keeps (Moves WriteSequential) = outcome_keeps _ d v f b _ c (write_sequential_keeps d v f b c)
  does_keeps Make = buffer_kept b (outcome_keeps _ d v f [] _ c (make_keeps d v f c))
  does_keeps Rename = buffer_kept b (outcome_keeps _ d v f [] _ c (rename_keeps d v f c))
  does_keeps Protect = fcb_kept f (buffer_kept b (small_keeps Nothing d v [] [] [] (protect_act d) c (protect_small d)))
  does_keeps Attributes = buffer_kept b (outcome_keeps _ d v f [] _ c (attributes_keep d v f c))
  does_keeps User = fcb_kept f (buffer_kept b (small_keeps Nothing d v [] [] [] (user_act d p) c (user_small d p)))
  does_keeps (Moves ReadRandom) = outcome_keeps Nothing d v f b (read_random_act d v f b) c (read_random_keeps d v f b c)
  does_keeps (Moves WriteRandom) = outcome_keeps _ d v f b _ c (write_random_keeps d v f b c small)
  does_keeps Size = buffer_kept b (outcome_keeps Nothing d v f [] (size_act d v f) c (size_keeps d v f b c))
  does_keeps SetRandom = buffer_kept b (small_keeps Nothing d v [] f [] (set_random_act d f) c (set_random_small d f))
  does_keeps (Moves WriteZeroFill) = outcome_keeps _ d v f b _ c (write_zero_fill_keeps d v f b c small)
  does_keeps (Moves ReadSeveral) =
      several_keeps read_sequential_leaves (λ w h u name. false) read_refuses (λ d v f b c. outcome_keeps Nothing d v f b (read_sequential_act d v f b) c (read_sequential_keeps d v f b c))
      (λ d v f b u name. refl) d v f b p c
  does_keeps (Moves WriteSeveral) = write_several_keeps d v f b p c
  does_keeps Unserved = outcome_keeps Nothing d v f b (deny NotServed) c denied
