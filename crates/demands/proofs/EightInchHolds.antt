-- The statements of `EightInch` hold.
use mathlib.Core.Path.{◌≡◌, refl, sym, ap, subst, ◌∙◌}
use mathlib.Core.Bool.{Bool, true, false, not, cond, true≢false}
use mathlib.Core.Logic.{◌⊎◌, inl, inr}
use mathlib.Core.List.{List, [], ◌∷◌, ◌++◌}
use Prim.Native.Nat.{ℕ, zero, suc, ◌+◌, ◌*◌, ◌≤◌, ◌<◌}
use native.Mathlib.Omega.{arith}
use lib.Dec.{ltb, eqb}
use lib.ListN.{length, take}
use borrow.Author.Tests.{eq-eqb}
use Rattle.lists.specs.Bytes.{put}
use Rattle.lists.proofs.PartLaws.{part_apart}
use Rattle.disk_geometry.specs.declared.Geometry.{Geometry}
use Rattle.disk_geometry.specs.EightInch.{reserved_bytes, image_start}
use Rattle.disk_geometry.specs.Geometry.{floppy, lawful, bytes, records, start, slots, blocks, directory_blocks_of}
use Rattle.disk_geometry.proofs.EightInchLaws.{image_reserved, image_apart}
use Rattle.disk_geometry.proofs.GeometryLaws.{start_floppy, start_in}
use Rattle.disk_stores.specs.Stores.{Store, laid, cut}
use Rattle.disk_held.specs.Held.{free_count}
use Rattle.disk_rules.specs.Named.{held_of}
use Rattle.call_answers.specs.declared.Refusal.{Refusal}
use Rattle.call_answers.specs.declared.Refusal.TheVariants.{None, Closed, VolumeLength, BadSlot, NotServed}
use Rattle.call_answers.specs.declared.Answer.{Answer}
use Rattle.call_answers.specs.declared.Answer.TheVariants as answer
use Rattle.call_answers.specs.Refusal.{Test, test, is_none, first_met}
use Rattle.call_served.specs.declared.Call.{Call}
use Rattle.call_served.specs.declared.Call.TheVariants.{LogIn, Open, Close, SearchFirst, SearchNext, Delete, Make, Rename, Protect, Attributes, User, Size, SetRandom, Moves, Unserved}
use Rattle.call_served.specs.declared.Transfer.TheVariants.{ReadSequential, WriteSequential, ReadRandom, WriteRandom, WriteZeroFill, ReadSeveral, WriteSeveral}
use Rattle.call_served.specs.Calls.{call_of}
use Rattle.call_served.specs.Asked.{Asked}
use Rattle.filecalls.specs.declared.Drive.{Drive}
use Rattle.filecalls.specs.declared.Reply.{Reply}
use Rattle.filecalls.specs.State.{is_open, closed, logged_in}
use Rattle.filecalls.specs.Tests.{closed_state}
use Rattle.filecalls.specs.Outcome.{Act, deny, act_stores, unless, Outcome, outcome, left}
use Rattle.filecalls.specs.LogIn.{lent_log_in, log_in_tests, refused_log_in, log_in}
use Rattle.filecalls.specs.Open.{open_tests, open_act, close_tests, close_act, size_tests, size_act}
use Rattle.filecalls.specs.Search.{first_tests, search_first_act, next_tests, search_next_act}
use Rattle.filecalls.specs.Names.{delete_ladder, delete_act, make_ladder, make_act, rename_ladder, rename_act, attributes_ladder, attributes_act}
use Rattle.filecalls.specs.Read.{sequential_tests, random_tests, read_sequential_act, read_random_act}
use Rattle.filecalls.specs.Write.{write_sequential_act, write_random_act, write_zero_fill_act}
use Rattle.filecalls.specs.Small.{protect_tests, protect_act, user_tests, user_act, set_random_tests, set_random_act}
use Rattle.several.specs.Several.{Single, several_tests, several}
use Rattle.several.specs.Stores.{several_stores}
use Rattle.bdos.specs.Step.{keeps_buffer, keeps_fcb, keeps_volume, carries, does, step}
use Rattle.bdos.specs.CodeWay.{way_of, logs}
use Rattle.bdos.specs.Stores.{transfer_stores, call_stores, stores_of}
use Rattle.bdos.proofs.DoorLaws.{logs_in_lem}
use Rattle.unskewed.specs.Unskewed.{straightened, unskewed}
use Rattle.unskewed.proofs.Logical.{straight_good, unskewed_size, Within, none, and, stored_size, laid_size, laid_seen}
use Rattle.unskewed.proofs.Seen.{bad_seen, held_seen}
use Rattle.demands.specs.Run.{Seen, seen, Way, answers, final, final_state}
use Rattle.demands.specs.Order.{refusals_of, is_several}
use Rattle.demands.specs.EightInch.{with_geometry, straight_drive, unskewed_outcome, StateOf, has_geometry, shut, EachCall, RunAsUnskewed, EachRun, EachCut, SpareSame, SpareKept}
use Rattle.demands.proofs.EightInchActs.{placed, placed_open}
use Rattle.demands.proofs.EightInchCalls.{placed_outcome, Kin, does_kin}

-- ---- the straight state
pub straight_is : (d : Drive) → lawful d.geometry ≡ true → straight_drive d ≡ placed d
straight_is d good = ap (λ (t : Bool). with_geometry d (cond t (straightened d.geometry) d.geometry)) good

pub straight_not : (d : Drive) → lawful d.geometry ≡ false → straight_drive d ≡ with_geometry d d.geometry
straight_not d bad = ap (λ (t : Bool). with_geometry d (cond t (straightened d.geometry) d.geometry)) bad

pub straight_geometry : (g : Geometry) → lawful g ≡ true → (d : Drive) → d.geometry ≡ g → (straight_drive d).geometry ≡ straightened g
straight_geometry g good d e =
    ap (λ (x : Geometry). cond (lawful x) (straightened x) x) e ∙ ap (λ (t : Bool). cond t (straightened g) g) good

-- it is open where the state is
pub straight_open : (d : Drive) → is_open (straight_drive d) ≡ is_open d
unfolding is_open
straight_open d = go (lawful d.geometry) refl
  where
    go : (t : Bool) → lawful d.geometry ≡ t → is_open (straight_drive d) ≡ is_open d
    go true e = ap is_open (straight_is d e) ∙ placed_open d e
    go false e = ap is_open (straight_not d e)

pub straight_closed : straight_drive closed ≡ closed
unfolding lawful
straight_closed = refl

pub closed_is_shut : is_open closed ≡ false
unfolding is_open lawful
closed_is_shut = refl

-- ---- log-in
-- accepted, with these blocks held, and refused
abbrev ready_of : Geometry → List ℕ → Answer
ready_of g held = answer.Ready (free_count held (directory_blocks_of g) (blocks g))

abbrev accepted : Geometry → List ℕ → Reply
accepted g held = record { answer = ready_of g held; drive = logged_in g held }

abbrev refused : Geometry → List ℕ → Reply
refused g v = record { answer = refused_log_in g v; drive = closed }

record SameLogIn (g : Geometry) (r r' : Reply) : Type 0 where
  same : r' ≡ record { answer = r.answer; drive = straight_drive r.drive }
  state : StateOf g r.drive

module _ (g : Geometry) (good : lawful g ≡ true) (v : List ℕ) (size : length v ≡ bytes g) where
  lent_same : lent_log_in (straightened g) (unskewed g v) ≡ lent_log_in g v
  lent_same =
      let e : eqb (length (unskewed g v)) (bytes (straightened g)) ≡ eqb (length v) (bytes g)
      = eq-eqb _ _ (unskewed_size g good v size) ∙ sym (eq-eqb _ _ size) in
      let l : lawful (straightened g) ≡ lawful g = straight_good g good ∙ sym good in
      λ i. test Closed (not (l i)) ∷ test VolumeLength (not (e i)) ∷ []

  tests_same : log_in_tests (straightened g) (unskewed g v) ≡ log_in_tests g v
  unfolding log_in_tests
  tests_same = λ i. lent_same i ++ (test BadSlot (ltb (bad_seen g good v size i) (slots g)) ∷ [])

  refused_same : refused_log_in (straightened g) (unskewed g v) ≡ refused_log_in g v
  unfolding refused_log_in
  refused_same = λ i. cond (is_none (first_met (lent_same i))) (answer.BadSlot (bad_seen g good v size i)) (answer.Refused (first_met (lent_same i)))

  accepted_same : SameLogIn g (accepted g (held_of g v)) (accepted (straightened g) (held_of (straightened g) (unskewed g v)))
  accepted_same =
      record {
        same =
            ap (accepted (straightened g)) (held_seen g good v size)
            ∙ ap (λ (d : Drive). record { answer = ready_of g (held_of g v); drive = d }) (sym (straight_is (logged_in g (held_of g v)) good));
        state = has_geometry refl;
      }

  refused_alike : SameLogIn g (refused g v) (refused (straightened g) (unskewed g v))
  refused_alike = record { same = λ i. record { answer = refused_same i; drive = sym straight_closed i }; state = shut closed_is_shut }

  log_in_same : SameLogIn g (log_in g v) (log_in (straightened g) (unskewed g v))
  unfolding log_in
  log_in_same =
      subst
      (λ (ts : List Test).
      SameLogIn g (cond (is_none (first_met (log_in_tests g v))) (accepted g (held_of g v)) (refused g v))
      (cond (is_none (first_met ts)) (accepted (straightened g) (held_of (straightened g) (unskewed g v))) (refused (straightened g) (unskewed g v))))
      (sym tests_same) (go (is_none (first_met (log_in_tests g v))))
    where
      go : (t : Bool)
          → SameLogIn g (cond t (accepted g (held_of g v)) (refused g v))
          (cond t (accepted (straightened g) (held_of (straightened g) (unskewed g v))) (refused (straightened g) (unskewed g v)))
      go true = accepted_same
      go false = refused_alike

-- ---- a state that counts as closed: every call but a log-in leaves all as it is, and stores nothing
abbrev as_given : Answer → Drive → List ℕ → List ℕ → List ℕ → Outcome
as_given a d v f b = record { answer = a; drive = d; volume = v; fcb = f; buffer = b }

-- what it answers: by the first of its refusals, which is 32 for every call that is served
abbrev lowest_of : List Refusal → Refusal
lowest_of [] = None
lowest_of (w ∷ ws) = w

abbrev says_shut : Call → Answer
says_shut call = cond (is_several call) (answer.Several 0 Closed) (answer.Refused (lowest_of (refusals_of call)))

-- the ladders and acts that a call is made of
unfoldable acts : Unit {0}
unfolding open_tests open_act close_tests close_act size_tests size_act first_tests search_first_act next_tests search_next_act delete_ladder delete_act make_ladder make_act rename_ladder rename_act attributes_ladder attributes_act sequential_tests random_tests read_sequential_act read_random_act write_sequential_act write_random_act write_zero_fill_act protect_tests protect_act user_tests user_act set_random_tests set_random_act
acts = tt

module _ (d : Drive) (closed-d : is_open d ≡ false) where
  first_shut : (ts : List Test) → first_met (closed_state d ∷ ts) ≡ Closed
  unfolding first_met
  first_shut ts = rw closed-d

  out : (ts : List Test) (act : Act) → unless (closed_state d ∷ ts) act ≡ deny Closed
  unfolding unless first_met
  out ts act = rw closed-d

  denied : (v f b : List ℕ) (act : Act) → act ≡ deny Closed → outcome d v f b act ≡ as_given (answer.Refused Closed) d v f b
  unfolding outcome
  denied v f b act e = rw e

  denied_so : (v f b : List ℕ) → outcome d v f b (deny NotServed) ≡ as_given (answer.Refused NotServed) d v f b
  unfolding outcome
  denied_so v f b = refl

  several_shut : (single : Single) (v f b : List ℕ) (k : ℕ) → several single d v f b k ≡ as_given (answer.Several 0 Closed) d v f b
  unfolding several several_tests
  several_shut single v f b k = rw first_shut

  shut_call : (g : Geometry) (p : ℕ) (v f b : List ℕ) (call : Call) → (call ≡ LogIn → ⊥) → does g call p d v f b ≡ as_given (says_shut call) d v f b
  unfolding does carries acts
  shut_call g p v f b LogIn other = absurd (other refl)
  shut_call g p v f b Open other = ap (keeps_buffer b) (denied v f [] _ (out _ _))
  shut_call g p v f b Close other = ap (keeps_buffer b) (denied v f [] _ (out _ _))
  shut_call g p v f b SearchFirst other = denied v f b _ (out _ _)
  shut_call g p v f b SearchNext other = ap (keeps_fcb f) (denied v [] b _ (out _ _))
  shut_call g p v f b Delete other = ap (keeps_buffer b) (denied v f [] _ (out _ _))
  shut_call g p v f b Make other = ap (keeps_buffer b) (denied v f [] _ (out _ _))
  shut_call g p v f b Rename other = ap (keeps_buffer b) (denied v f [] _ (out _ _))
  shut_call g p v f b Protect other = ap (λ (o : Outcome). keeps_volume v (keeps_fcb f (keeps_buffer b o))) (denied [] [] [] _ (out _ _))
  shut_call g p v f b Attributes other = ap (keeps_buffer b) (denied v f [] _ (out _ _))
  shut_call g p v f b User other = ap (λ (o : Outcome). keeps_volume v (keeps_fcb f (keeps_buffer b o))) (denied [] [] [] _ (out _ _))
  shut_call g p v f b Size other = ap (keeps_buffer b) (denied v f [] _ (out _ _))
  shut_call g p v f b SetRandom other = ap (λ (o : Outcome). keeps_volume v (keeps_buffer b o)) (denied [] f [] _ (out _ _))
  shut_call g p v f b (Moves ReadSequential) other = denied v f b _ (out _ _)
  shut_call g p v f b (Moves WriteSequential) other = denied v f b _ (out _ _)
  shut_call g p v f b (Moves ReadRandom) other = denied v f b _ (out _ _)
  shut_call g p v f b (Moves WriteRandom) other = denied v f b _ (out _ _)
  shut_call g p v f b (Moves WriteZeroFill) other = denied v f b _ (out _ _)
  shut_call g p v f b (Moves ReadSeveral) other = several_shut _ v f b p
  shut_call g p v f b (Moves WriteSeveral) other = several_shut _ v f b p
  shut_call g p v f b Unserved other = denied_so v f b

  several_stores_shut : (v f b : List ℕ) (k : ℕ) → several_stores d v f b k ≡ []
  unfolding several_stores several_tests
  several_stores_shut v f b k = rw first_shut

  shut_stores : (p : ℕ) (v f b : List ℕ) (call : Call) → call_stores call p d v f b ≡ []
  unfolding call_stores transfer_stores acts
  shut_stores p v f b LogIn = refl
  shut_stores p v f b Open = refl
  shut_stores p v f b Close = refl
  shut_stores p v f b SearchFirst = refl
  shut_stores p v f b SearchNext = refl
  shut_stores p v f b Delete = ap act_stores (out _ _)
  shut_stores p v f b Make = ap act_stores (out _ _)
  shut_stores p v f b Rename = ap act_stores (out _ _)
  shut_stores p v f b Protect = refl
  shut_stores p v f b Attributes = ap act_stores (out _ _)
  shut_stores p v f b User = refl
  shut_stores p v f b Size = refl
  shut_stores p v f b SetRandom = refl
  shut_stores p v f b (Moves ReadSequential) = refl
  shut_stores p v f b (Moves WriteSequential) = ap act_stores (out _ _)
  shut_stores p v f b (Moves ReadRandom) = refl
  shut_stores p v f b (Moves WriteRandom) = ap act_stores (out _ _)
  shut_stores p v f b (Moves WriteZeroFill) = ap act_stores (out _ _)
  shut_stores p v f b (Moves ReadSeveral) = refl
  shut_stores p v f b (Moves WriteSeveral) = several_stores_shut v f b p
  shut_stores p v f b Unserved = refl

-- ---- a step
-- the call is a log-in, or another
log_in_or_not : (call : Call) → (call ≡ LogIn) ⊎ (call ≡ LogIn → ⊥)
log_in_or_not call = go (logs (way_of call)) refl
  where
    go : (t : Bool) → logs (way_of call) ≡ t → (call ≡ LogIn) ⊎ (call ≡ LogIn → ⊥)
    go true e = inl (logs_in_lem call e)
    go false e = inr (λ z. true≢false (sym (ap (λ (c : Call). logs (way_of c)) z) ∙ e))

-- what a step leaves on the image v, o, and on the unskewed volume, p; its stores are ss there and ss' here
record Steps (g : Geometry) (v : List ℕ) (ss ss' : List Store) (o p : Outcome) : Type 0 where
  same : p ≡ unskewed_outcome g o
  state : StateOf g o.drive
  stores_same : ss' ≡ ss
  within : Within g ss
  volume_is : o.volume ≡ laid g v ss

abbrev with_drive : Outcome → Drive → Outcome
with_drive o d = record { answer = o.answer; drive = d; volume = o.volume; fcb = o.fcb; buffer = o.buffer }

module _ (g : Geometry) (good : lawful g ≡ true) (v : List ℕ) (size : length v ≡ bytes g) (f b : List ℕ) (p : ℕ) where
  -- of a call, in a state and in the straight one
  abbrev StepsFrom : Call → Drive → Drive → Type 0
  StepsFrom call d s =
      Steps g v (call_stores call p d v f b) (call_stores call p s (unskewed g v) f b)
      (does g call p d v f b) (does (straightened g) call p s (unskewed g v) f b)

  -- what does-kin says of it, of an image with the geometry x
  abbrev KinFrom : Geometry → Call → Drive → Type 0
  KinFrom x call d =
      Kin x v (call_stores call p d v f b) (call_stores call p (placed d) (unskewed x v) f b)
      (does g call p d v f b) (does (straightened g) call p (placed d) (unskewed x v) f b)

  log_in_steps : (d s : Drive) → StepsFrom LogIn d s
  unfolding does call_stores laid
  log_in_steps d s =
      let r = log_in_same g good v size in
      record { same = λ i. left (r.same i) (unskewed g v) f b; state = r.state; stores_same = refl; within = none; volume_is = refl }

  -- a state with the geometry
  open_steps : (call : Call) → (call ≡ LogIn → ⊥) → (d : Drive) → d.geometry ≡ g → StepsFrom call d (placed d)
  open_steps call other d e =
      let k : KinFrom g call d
      = subst (λ (x : Geometry). KinFrom x call d) e (does_kin d (ap lawful e ∙ good) v (size ∙ ap bytes (sym e)) f b call other g (straightened g) p) in
      let o = does g call p d v f b in
      record {
        same = k.same ∙ ap (with_drive (placed_outcome g o)) (sym (straight_is o.drive (ap lawful k.lays.geometry ∙ good)));
        state = has_geometry k.lays.geometry;
        stores_same = k.lays.stores_same;
        within = k.lays.within;
        volume_is = k.lays.volume_is;
      }

  -- one that counts as closed
  shut_steps : (call : Call) → (call ≡ LogIn → ⊥) → (d : Drive) → is_open d ≡ false → StepsFrom call d (straight_drive d)
  unfolding laid
  shut_steps call other d e =
      let e' : is_open (straight_drive d) ≡ false = straight_open d ∙ e in
      let here = shut_call d e g p v f b call other in
      let none_here = shut_stores d e p v f b call in
      record {
        same = shut_call (straight_drive d) e' (straightened g) p (unskewed g v) f b call other ∙ sym (ap (unskewed_outcome g) here);
        state = subst (StateOf g) (sym (ap (λ (o : Outcome). o.drive) here)) (shut e);
        stores_same = shut_stores (straight_drive d) e' p (unskewed g v) f b call ∙ sym none_here;
        within = subst (Within g) (sym none_here) none;
        volume_is = ap (λ (o : Outcome). o.volume) here ∙ sym (ap (laid g v) none_here);
      }

  steps : (call : Call) (d : Drive) → StateOf g d → StepsFrom call d (straight_drive d)
  steps call d st = go (log_in_or_not call) st
    where
      go : (call ≡ LogIn) ⊎ (call ≡ LogIn → ⊥) → StateOf g d → StepsFrom call d (straight_drive d)
      go (inl e) st = subst (λ (c : Call). StepsFrom c d (straight_drive d)) (sym e) (log_in_steps d (straight_drive d))
      go (inr other) (has_geometry e) = subst (StepsFrom call d) (sym (straight_is d (ap lawful e ∙ good))) (open_steps call other d e)
      go (inr other) (shut e) = shut_steps call other d e

-- ---- "Every call answers on such an image as on the unskewed volume."
call_steps : (g : Geometry) → lawful g ≡ true → (c : Asked) (d : Drive) → StateOf g d → (v : List ℕ) → length v ≡ bytes g
    → Steps g v (stores_of c d v) (stores_of c (straight_drive d) (unskewed g v)) (step g c d v) (step (straightened g) c (straight_drive d) (unskewed g v))
unfolding step
call_steps g good c d st v size = steps g good v size c.fcb c.buffer c.parameter (call_of c.function) d st

pub each_call : EachCall
each_call g good d st v size c = (call_steps g good c d st v size).same

-- what is asked of one call for a run of them
pub record Goes (g : Geometry) (o p : Outcome) : Type 0 where
  pub same : p ≡ unskewed_outcome g o
  pub state : StateOf g o.drive
  pub long : length o.volume ≡ bytes g

abbrev pub GoesBy : (Geometry → Way) → Geometry → Type 0
GoesBy way g =
    (c : Asked) (d : Drive) → StateOf g d → (v : List ℕ) → length v ≡ bytes g
    → Goes g (way g c d v) (way (straightened g) c (straight_drive d) (unskewed g v))

pub goes : (g : Geometry) → lawful g ≡ true → GoesBy step g
goes g good c d st v size =
    let k = call_steps g good c d st v size in
    record { same = k.same; state = k.state; long = ap length k.volume_is ∙ laid_size g good v size (stores_of c d v) k.within ∙ size }

-- a run, and what holds at its end
pub record RunGoes (way : Geometry → Way) (g : Geometry) (cs : List Asked) (d : Drive) (v : List ℕ) : Type 0 where
  pub as_unskewed : RunAsUnskewed way g cs d v
  pub state : StateOf g (final_state (way g) cs d v)
  pub long : length (final (way g) cs d v) ≡ bytes g

pub run_goes : (way : Geometry → Way) (g : Geometry) → GoesBy way g
    → (cs : List Asked) (d : Drive) → StateOf g d → (v : List ℕ) → length v ≡ bytes g → RunGoes way g cs d v
unfolding answers final final_state
run_goes way g each [] d st v size = record { as_unskewed = record { seen_same = refl; volume_same = refl; state_same = refl }; state = st; long = size }
run_goes way g each (c ∷ cs) d st v size =
    let k = each c d st v size in
    let o = way g c d v in
    let rest = run_goes way g each cs o.drive k.state o.volume k.long in
    let run = rest.as_unskewed in
    record {
      as_unskewed = record {
        seen_same =
            (λ i. seen (k.same i) ∷ answers (way (straightened g)) cs (k.same i).drive (k.same i).volume)
            ∙ ap (λ (l : List Seen). seen o ∷ l) run.seen_same;
        volume_same = (λ i. final (way (straightened g)) cs (k.same i).drive (k.same i).volume) ∙ run.volume_same;
        state_same = (λ i. final_state (way (straightened g)) cs (k.same i).drive (k.same i).volume) ∙ run.state_same;
      };
      state = rest.state;
      long = rest.long;
    }

pub each_run : EachRun
each_run g good d st v size cs = (run_goes step g (goes g good) cs d st v size).as_unskewed

-- ---- and wherever it is cut
within_take : {g : Geometry} {ss : List Store} (k : ℕ) → Within g ss → Within g (take k ss)
within_take zero x = none
within_take (suc k) none = none
within_take (suc k) (and s ss q r x) = and s (take k ss) q r (within_take k x)

pub each_cut : EachCut
each_cut g good d st v size c =
    let k = call_steps g good c d st v size in
    record {
      stores_same = k.stores_same;
      volume_same = λ n.
          ap (λ (ss : List Store). cut (straightened g) (unskewed g v) n ss) k.stores_same
          ∙ sym (laid_seen g good v size (take n (stores_of c d v)) (within_take n k.within));
    }

-- ---- "The reserved tracks and the last six logical records never change."
pub floppy_lawful : lawful floppy ≡ true
unfolding lawful
floppy_lawful = refl

at : (q : ℕ) → start floppy q ≡ image_start q
at q = start_floppy floppy floppy_lawful q refl

-- a record of the blocks stored
store_spares : (v : List ℕ) → length v ≡ bytes floppy → (q : ℕ) → q < blocks floppy * records floppy → (r : List ℕ) → length r ≡ 128
    → SpareSame v (put v (start floppy q) 128 r)
store_spares v size q q< r r128 =
    let in_v : start floppy q + 128 ≤ length v = rw size (start_in floppy floppy_lawful q q<) in
    record {
      length_kept = stored_size floppy floppy_lawful v size q q< r r128;
      reserved = part_apart v (start floppy q) 128 r 0 reserved_bytes in_v r128 (inl (rw (at q) (image_reserved q)));
      last_six = λ n low high. part_apart v (start floppy q) 128 r (start floppy n) 128 in_v r128 (rw (at q, at n) (image_apart n q (λ z. omega (arith, z))));
    }

pub spare_none : (v : List ℕ) → SpareSame v v
spare_none v = record { length_kept = refl; reserved = refl; last_six = λ q low high. refl }

pub spare_then : {u v w : List ℕ} → SpareSame u v → SpareSame v w → SpareSame u w
spare_then x y =
    record {
      length_kept = y.length_kept ∙ x.length_kept;
      reserved = y.reserved ∙ x.reserved;
      last_six = λ q low high. y.last_six q low high ∙ x.last_six q low high;
    }

laid_spares : (v : List ℕ) → length v ≡ bytes floppy → (ss : List Store) → Within floppy ss → SpareSame v (laid floppy v ss)
unfolding laid
laid_spares v size [] none = spare_none v
laid_spares v size (t ∷ ss) (and t' ss' q< r128 rest) =
    let k = store_spares v size t.at q< t.bytes r128 in
    spare_then k (laid_spares (put v (start floppy t.at) 128 t.bytes) (k.length_kept ∙ size) ss rest)

pub step_spares : (c : Asked) (d : Drive) → StateOf floppy d → (v : List ℕ) → length v ≡ bytes floppy → SpareSame v (step floppy c d v).volume
step_spares c d st v size =
    let k = call_steps floppy floppy_lawful c d st v size in
    subst (SpareSame v) (sym k.volume_is) (laid_spares v size (stores_of c d v) k.within)

pub cut_spares : (c : Asked) (k : ℕ) (d : Drive) → StateOf floppy d → (v : List ℕ) → length v ≡ bytes floppy
    → SpareSame v (cut floppy v k (stores_of c d v))
cut_spares c k d st v size =
    laid_spares v size (take k (stores_of c d v)) (within_take k (call_steps floppy floppy_lawful c d st v size).within)

-- of a way of which every call keeps them
pub run_spares : (way : Geometry → Way) → GoesBy way floppy
    → ((c : Asked) (d : Drive) → StateOf floppy d → (v : List ℕ) → length v ≡ bytes floppy → SpareSame v (way floppy c d v).volume)
    → (cs : List Asked) (d : Drive) → StateOf floppy d → (v : List ℕ) → length v ≡ bytes floppy → SpareSame v (final (way floppy) cs d v)
unfolding final
run_spares way each spares [] d st v size = spare_none v
run_spares way each spares (c ∷ cs) d st v size =
    let k = each c d st v size in
    let o = way floppy c d v in
    spare_then (spares c d st v size) (run_spares way each spares cs o.drive k.state o.volume k.long)

pub spare_kept : SpareKept
spare_kept d st v size cs =
    let each = goes floppy floppy_lawful in
    let run = run_goes step floppy each cs d st v size in
    let end = run_spares step each step_spares cs d st v size in
    record {
      at_end = end;
      where_cut = λ c k. spare_then end (cut_spares c k (final_state (step floppy) cs d v) run.state (final (step floppy) cs d v) run.long);
    }
