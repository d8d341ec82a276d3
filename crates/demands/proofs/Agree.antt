-- Two states that differ in the held blocks alone, and hold the same of the blocks from D to T-1, answer every call alike
-- and leave the same volume: a call looks at the held blocks only where a write is given a block.
use mathlib.Core.Path.{◌≡◌, refl}
use mathlib.Core.Bool.{Bool}
use mathlib.Core.List.{List, []}
use Prim.Native.Nat.{ℕ, ◌≤◌, ◌<◌}
use Rattle.disk_geometry.specs.declared.Geometry.{Geometry}
use Rattle.disk_geometry.specs.Geometry.{place_of}
use Rattle.disk_volume.specs.Entry.{Entry}
use Rattle.disk_volume.specs.Name.{name_of}
use Rattle.disk_held.specs.Held.{holds}
use Rattle.call_answers.specs.declared.Refusal.TheVariants.{NotServed}
use Rattle.call_decide.specs.Write.{base_entry, write_block, write_tests}
use Rattle.call_entry.specs.Alloc.{alloc}
use Rattle.call_entry.proofs.AllocLaws.{alloc_ext}
use Rattle.filecalls.specs.Leaves.{read_sequential_leaves, write_sequential_leaves}
use Rattle.filecalls.specs.declared.Drive.{Drive}
use Rattle.filecalls.specs.State.{is_open}
use Rattle.filecalls.specs.Open.{open_tests, open_act, close_tests, close_act, size_tests, size_act}
use Rattle.filecalls.specs.Search.{first_tests, search_first_act, new_search, hit_act, next_tests, search_next_act}
use Rattle.filecalls.specs.Names.{delete_ladder, delete_act, make_ladder, make_act, rename_ladder, rename_act, attributes_ladder, attributes_act}
use Rattle.filecalls.specs.Read.{sequential_tests, random_tests, read_done, read_sequential_act, read_random_act}
use Rattle.filecalls.specs.Write.{write_entry, write_done, write_sequential_act, write_random_act, write_zero_fill_act}
use Rattle.filecalls.specs.Small.{protect_tests, protect_act, user_tests, user_act, set_random_tests, set_random_act}
use Rattle.filecalls.specs.Outcome.{Change, keeps, takes, frees, protects, becomes, searches, Act, deny, done, changed_state, with_held, Outcome, outcome}
use Rattle.several.specs.Several.{several}
use Rattle.call_served.specs.declared.Call.{Call}
use Rattle.call_served.specs.declared.Call.TheVariants.{LogIn, Open, Close, SearchFirst, SearchNext, Delete, Make, Rename, Protect, Attributes, User, Size, SetRandom, Moves, Unserved}
use Rattle.call_served.specs.declared.Transfer.TheVariants.{ReadSequential, WriteSequential, ReadRandom, WriteRandom, WriteZeroFill, ReadSeveral, WriteSeveral}
use Rattle.bdos.specs.Step.{keeps_buffer, keeps_fcb, keeps_volume, carries, does}
use Rattle.demands.proofs.Acts.{Consistent, outcome_keeps}
use Rattle.demands.proofs.WritesKeep.{write_sequential_keeps}
use Rattle.demands.proofs.CallsKeep.{Nothing, read_sequential_keeps}
use Rattle.demands.proofs.Alike.{Alike}
use Rattle.demands.proofs.SeveralAlike.{held_same, several_alike}

-- ---- an act that is the same in both states
module _ (d : Drive) (k : List ℕ) where
  state_alike : (v : List ℕ) (ch : Change) → changed_state (with_held d k) v ch ≡ with_held (changed_state d v ch) (changed_state (with_held d k) v ch).held
  unfolding changed_state
  state_alike v keeps = refl
  state_alike v (takes t b) = refl
  state_alike v (frees u pattern) = refl
  state_alike v protects = refl
  state_alike v (becomes u) = refl
  state_alike v (searches q) = refl

  pub outcome_alike : (v f b : List ℕ) (act : Act) → Alike (outcome d v f b act) (outcome (with_held d k) v f b act)
  unfolding outcome
  outcome_alike v f b (deny why) = record { answer = refl; volume = refl; fcb = refl; buffer = refl; drive = refl }
  outcome_alike v f b (done code change stores f' b') = record { answer = refl; volume = refl; fcb = refl; buffer = refl; drive = state_alike v change }

  -- in one step: the act is the same, and so is what it leaves
  by_act : {act act' : Act} (w f' b' : List ℕ) → act' ≡ act → Alike (outcome d w f' b' act) (outcome (with_held d k) w f' b' act')
  by_act {act} {act'} w f' b' e = rw e (outcome_alike w f' b' act)

-- ---- the writes
module _ (d : Drive) (k v : List ℕ) (same : (b : ℕ) → d.geometry.directory_blocks ≤ b → b < d.geometry.blocks → holds k b ≡ holds d.held b) where
  given : (e : Entry) (p : ℕ) → alloc d.geometry k e p ≡ alloc d.geometry d.held e p
  given e p = alloc_ext d.geometry k d.held e p same

  block_alike : (u : ℕ) (name : List ℕ) (n : ℕ) → write_block d.geometry k v u name n ≡ write_block d.geometry d.held v u name n
  unfolding write_block
  block_alike u name n = rw (given (base_entry d.geometry v u name n) (place_of d.geometry n))

  tests_alike : (u : ℕ) (name : List ℕ) (n : ℕ) → write_tests d.geometry k v u name n ≡ write_tests d.geometry d.held v u name n
  unfolding write_tests
  tests_alike u name n = rw (given (base_entry d.geometry v u name n) (place_of d.geometry n))

  done_alike : (f : List ℕ) (n cr : ℕ) (fills : Bool) (b : List ℕ) → write_done (with_held d k) v f n cr fills b ≡ write_done d v f n cr fills b
  unfolding write_done write_entry
  done_alike f n cr fills b = rw (block_alike d.user (name_of f) n)

  sequential_alike : (f b : List ℕ) → write_sequential_act (with_held d k) v f b ≡ write_sequential_act d v f b
  unfolding write_sequential_act sequential_tests is_open
  sequential_alike f b = simp (done_alike, tests_alike)

  random_alike : (f b : List ℕ) → write_random_act (with_held d k) v f b ≡ write_random_act d v f b
  unfolding write_random_act random_tests is_open
  random_alike f b = simp (done_alike, tests_alike)

  zero_fill_alike : (f b : List ℕ) → write_zero_fill_act (with_held d k) v f b ≡ write_zero_fill_act d v f b
  unfolding write_zero_fill_act random_tests is_open
  zero_fill_alike f b = simp (done_alike, tests_alike)

-- ---- each call's act
module _ (d : Drive) (k v f b : List ℕ) where
  open_alike : open_act (with_held d k) v f ≡ open_act d v f
  unfolding open_act open_tests is_open
  open_alike = refl

  close_alike : close_act (with_held d k) v f ≡ close_act d v f
  unfolding close_act close_tests is_open
  close_alike = refl

  size_alike : size_act (with_held d k) v f ≡ size_act d v f
  unfolding size_act size_tests is_open
  size_alike = refl

  first_alike : search_first_act (with_held d k) v f b ≡ search_first_act d v f b
  unfolding search_first_act first_tests new_search hit_act is_open
  first_alike = refl

  next_alike : search_next_act (with_held d k) v b ≡ search_next_act d v b
  unfolding search_next_act next_tests hit_act is_open
  next_alike = refl

  delete_alike : delete_act (with_held d k) v f ≡ delete_act d v f
  unfolding delete_act delete_ladder is_open
  delete_alike = refl

  make_alike : make_act (with_held d k) v f ≡ make_act d v f
  unfolding make_act make_ladder is_open
  make_alike = refl

  rename_alike : rename_act (with_held d k) v f ≡ rename_act d v f
  unfolding rename_act rename_ladder is_open
  rename_alike = refl

  attributes_alike : attributes_act (with_held d k) v f ≡ attributes_act d v f
  unfolding attributes_act attributes_ladder is_open
  attributes_alike = refl

  read_sequential_alike : read_sequential_act (with_held d k) v f b ≡ read_sequential_act d v f b
  unfolding read_sequential_act sequential_tests read_done is_open
  read_sequential_alike = refl

  read_random_alike : read_random_act (with_held d k) v f b ≡ read_random_act d v f b
  unfolding read_random_act random_tests read_done is_open
  read_random_alike = refl

  protect_alike : protect_act (with_held d k) ≡ protect_act d
  unfolding protect_act protect_tests is_open
  protect_alike = refl

  user_alike : (code : ℕ) → user_act (with_held d k) code ≡ user_act d code
  unfolding user_act user_tests is_open
  user_alike code = refl

  set_random_alike : set_random_act (with_held d k) f ≡ set_random_act d f
  unfolding set_random_act set_random_tests is_open
  set_random_alike = refl

-- ---- several records
read_several_alike : (d : Drive) (k v f b : List ℕ) (n : ℕ) → Consistent d v → Consistent (with_held d k) v
    → Alike (several read_sequential_leaves d v f b n) (several read_sequential_leaves (with_held d k) v f b n)
read_several_alike =
    several_alike read_sequential_leaves (λ d k v f b c e. by_act d k v f b (read_sequential_alike d k v f b))
    (λ d v f b c. (outcome_keeps Nothing d v f b (read_sequential_act d v f b) c (read_sequential_keeps d v f b c)).consistent)

write_several_alike : (d : Drive) (k v f b : List ℕ) (n : ℕ) → Consistent d v → Consistent (with_held d k) v
    → Alike (several write_sequential_leaves d v f b n) (several write_sequential_leaves (with_held d k) v f b n)
write_several_alike =
    several_alike write_sequential_leaves (λ d k v f b c e. by_act d k v f b (sequential_alike d k v (held_same d k v c e) f b))
    (λ d v f b c. (outcome_keeps _ d v f b (write_sequential_act d v f b) c (write_sequential_keeps d v f b c)).consistent)

-- ---- every call
module _ (d : Drive) (k v f b : List ℕ) where
  buffer_kept : {o p : Outcome} → Alike o p → Alike (keeps_buffer b o) (keeps_buffer b p)
  buffer_kept a = record { answer = a.answer; volume = a.volume; fcb = a.fcb; buffer = refl; drive = a.drive }

  fcb_kept : {o p : Outcome} → Alike o p → Alike (keeps_fcb f o) (keeps_fcb f p)
  fcb_kept a = record { answer = a.answer; volume = a.volume; fcb = refl; buffer = a.buffer; drive = a.drive }

  volume_kept : {o p : Outcome} → Alike o p → Alike (keeps_volume v o) (keeps_volume v p)
  volume_kept a = record { answer = a.answer; volume = refl; fcb = a.fcb; buffer = a.buffer; drive = a.drive }

  module _ (kept : Consistent d v) (worked-out : Consistent (with_held d k) v) where
    same : (b : ℕ) → d.geometry.directory_blocks ≤ b → b < d.geometry.blocks → holds k b ≡ holds d.held b
    same = held_same d k v kept worked-out

    pub does_alike : (g : Geometry) (call : Call) (p : ℕ) → Alike (does g call p d v f b) (does g call p (with_held d k) v f b)
    unfolding does carries
    does_alike g LogIn p = record { answer = refl; volume = refl; fcb = refl; buffer = refl; drive = refl }
    does_alike g Open p = buffer_kept (by_act d k v f [] (open_alike d k v f b))
    does_alike g Close p = buffer_kept (by_act d k v f [] (close_alike d k v f b))
    does_alike g SearchFirst p = by_act d k v f b (first_alike d k v f b)
    does_alike g SearchNext p = fcb_kept (by_act d k v [] b (next_alike d k v f b))
    does_alike g Delete p = buffer_kept (by_act d k v f [] (delete_alike d k v f b))
    does_alike g (Moves ReadSequential) p = by_act d k v f b (read_sequential_alike d k v f b)
    does_alike g (Moves WriteSequential) p = by_act d k v f b (sequential_alike d k v same f b)
    does_alike g Make p = buffer_kept (by_act d k v f [] (make_alike d k v f b))
    does_alike g Rename p = buffer_kept (by_act d k v f [] (rename_alike d k v f b))
    does_alike g Protect p = volume_kept (fcb_kept (buffer_kept (by_act d k [] [] [] (protect_alike d k v f b))))
    does_alike g Attributes p = buffer_kept (by_act d k v f [] (attributes_alike d k v f b))
    does_alike g User p = volume_kept (fcb_kept (buffer_kept (by_act d k [] [] [] (user_alike d k v f b p))))
    does_alike g (Moves ReadRandom) p = by_act d k v f b (read_random_alike d k v f b)
    does_alike g (Moves WriteRandom) p = by_act d k v f b (random_alike d k v same f b)
    does_alike g Size p = buffer_kept (by_act d k v f [] (size_alike d k v f b))
    does_alike g SetRandom p = volume_kept (buffer_kept (by_act d k [] f [] (set_random_alike d k v f b)))
    does_alike g (Moves WriteZeroFill) p = by_act d k v f b (zero_fill_alike d k v same f b)
    does_alike g (Moves ReadSeveral) p = read_several_alike d k v f b p kept worked-out
    does_alike g (Moves WriteSeveral) p = write_several_alike d k v f b p kept worked-out
    does_alike g Unserved p = outcome_alike d k v f b (deny NotServed)
