-- Demand 1 holds: a refusal is the first clause of `outcome`, every call's act stands under `unless` and its own tests,
-- and what the tests refuse for does not depend on what is given.
use mathlib.Core.Path.{◌≡◌, refl, ap}
use mathlib.Core.Bool.{Bool, true, false, cond, true≢false, false≢true}
use mathlib.Core.Logic.{◌≢◌}
use mathlib.Core.List.{List, [], ◌∷◌}
use Prim.Native.Nat.{ℕ, ◌%◌, ◌<◌}
use native.Mathlib.Omega.{arith}
use lib.Dec.{ltb, eqb}
use borrow.Author.Tests.{lt-ltb, not-false}
use Rattle.disk_geometry.specs.declared.Geometry.{Geometry}
use Rattle.call_answers.specs.declared.Refusal.TheVariants.{Closed, NotServed}
use Rattle.call_answers.specs.Refusal.{Test, test, is_none, first_met}
use Rattle.call_answers.specs.Answer.{number_of, succeeded}
use Rattle.call_answers.proofs.Ladder.{unmet}
use Rattle.call_delete.specs.Delete.{delete_tests}
use Rattle.call_make.specs.Make.{make_tests}
use Rattle.call_rename.specs.Rename.{rename_tests}
use Rattle.call_read.specs.Read.{read_tests}
use Rattle.call_decide.specs.Write.{write_tests}
use Rattle.filecalls.specs.Leaves.{read_sequential_leaves, write_sequential_leaves}
use Rattle.filecalls.specs.declared.Drive.{Drive}
use Rattle.disk_stores.specs.Stores.{Store}
use Rattle.filecalls.specs.Outcome.{Change, keeps, becomes, Act, deny, done, unless, Outcome, outcome}
use Rattle.filecalls.specs.State.{is_open, closed}
use Rattle.filecalls.specs.LogIn.{log_in_tests, log_in}
use Rattle.filecalls.proofs.LogInLaws.{refused_fails, refused_number}
use Rattle.filecalls.specs.Open.{open_tests, open_act, close_tests, close_act, size_tests, size_act}
use Rattle.filecalls.specs.Search.{first_tests, search_first_act, next_tests, search_next_act, hit_act}
use Rattle.filecalls.specs.Names.{delete_ladder, delete_act, make_ladder, make_act, rename_ladder, rename_act, attributes_ladder, attributes_act}
use Rattle.filecalls.specs.Read.{sequential_tests, random_tests, read_done, read_sequential_act, read_random_act}
use Rattle.filecalls.specs.Write.{write_done, write_sequential_act, write_random_act, write_zero_fill_act}
use Rattle.filecalls.specs.Small.{protect_tests, protect_act, user_tests, user_act, set_random_tests, set_random_act}
use Rattle.filecalls.proofs.StateLaws.{is_open_lem}
use Rattle.several.specs.Several.{Single, several, several_tests}
use Rattle.several.proofs.SinglesLaws.{Refuses}
use Rattle.several.proofs.SeveralLaws.{leaves_all, read_refuses, write_refuses}
use Rattle.call_served.specs.declared.Call.{Call}
use Rattle.call_served.specs.declared.Call.TheVariants.{LogIn, Open, Close, SearchFirst, SearchNext, Delete, Make, Rename, Protect, Attributes, User, Size, SetRandom, Moves, Unserved}
use Rattle.call_served.specs.declared.Transfer.TheVariants.{ReadSequential, WriteSequential, ReadRandom, WriteRandom, WriteZeroFill, ReadSeveral, WriteSeveral}
use Rattle.bdos.specs.Step.{carries, does, step}
use Rattle.call_served.specs.Asked.{Asked}
use Rattle.demands.specs.Order.{paper_table, numbers_of, reasons, in_order, tests_of, refusals_of, among, answers_of}
use Rattle.demands.specs.Demand1.{call, tests, Leaves, Demand1}
use Rattle.demands.proofs.Says.{Says, was_met, was_none, number_among}
use Rattle.demands.proofs.SeveralSays.{read_says, write_says}

-- ---- a refused act leaves all as given
kept : (d : Drive) (v f b : List ℕ) (a : Act) → succeeded (outcome d v f b a).answer ≡ false → Leaves (outcome d v f b a) d v f b
unfolding outcome
kept d v f b (deny why) h = record { state_is = refl; volume_kept = refl; fcb_kept = refl; buffer_kept = refl }
kept d v f b (done code change stores f' b') h = absurd (true≢false h)

-- of several records: where none is done
several_kept : (single : Single) → Refuses single → (d : Drive) (v f b : List ℕ) (k : ℕ) → succeeded (several single d v f b k).answer ≡ false
    → Leaves (several single d v f b k) d v f b
several_kept single refuses d v f b k h =
    let e = leaves_all single refuses d v f b k h in
    record {
      state_is = ap (λ (o : Outcome). o.drive) e;
      volume_kept = ap (λ (o : Outcome). o.volume) e;
      fcb_kept = ap (λ (o : Outcome). o.fcb) e;
      buffer_kept = ap (λ (o : Outcome). o.buffer) e;
    }

call_kept : (g : Geometry) (k : Call) (p : ℕ) (d : Drive) (v f b : List ℕ) → k ≢ LogIn → succeeded (does g k p d v f b).answer ≡ false
    → Leaves (does g k p d v f b) d v f b
unfolding does carries
call_kept g LogIn p d v f b n h = absurd (n refl)
call_kept g Open p d v f b n h =
    let k = kept d v f [] (open_act d v f) h in
    record { state_is = k.state_is; volume_kept = k.volume_kept; fcb_kept = k.fcb_kept; buffer_kept = refl }
call_kept g Close p d v f b n h =
    let k = kept d v f [] (close_act d v f) h in
    record { state_is = k.state_is; volume_kept = k.volume_kept; fcb_kept = k.fcb_kept; buffer_kept = refl }
call_kept g SearchFirst p d v f b n h = kept d v f b (search_first_act d v f b) h
call_kept g SearchNext p d v f b n h =
    let k = kept d v [] b (search_next_act d v b) h in
    record { state_is = k.state_is; volume_kept = k.volume_kept; fcb_kept = refl; buffer_kept = k.buffer_kept }
call_kept g Delete p d v f b n h =
    let k = kept d v f [] (delete_act d v f) h in
    record { state_is = k.state_is; volume_kept = k.volume_kept; fcb_kept = k.fcb_kept; buffer_kept = refl }
call_kept g (Moves ReadSequential) p d v f b n h = kept d v f b (read_sequential_act d v f b) h
call_kept g (Moves WriteSequential) p d v f b n h = kept d v f b (write_sequential_act d v f b) h
call_kept g Make p d v f b n h =
    let k = kept d v f [] (make_act d v f) h in
    record { state_is = k.state_is; volume_kept = k.volume_kept; fcb_kept = k.fcb_kept; buffer_kept = refl }
call_kept g Rename p d v f b n h =
    let k = kept d v f [] (rename_act d v f) h in
    record { state_is = k.state_is; volume_kept = k.volume_kept; fcb_kept = k.fcb_kept; buffer_kept = refl }
call_kept g Protect p d v f b n h =
    let k = kept d [] [] [] (protect_act d) h in
    record { state_is = k.state_is; volume_kept = refl; fcb_kept = refl; buffer_kept = refl }
call_kept g Attributes p d v f b n h =
    let k = kept d v f [] (attributes_act d v f) h in
    record { state_is = k.state_is; volume_kept = k.volume_kept; fcb_kept = k.fcb_kept; buffer_kept = refl }
call_kept g User p d v f b n h =
    let k = kept d [] [] [] (user_act d p) h in
    record { state_is = k.state_is; volume_kept = refl; fcb_kept = refl; buffer_kept = refl }
call_kept g (Moves ReadRandom) p d v f b n h = kept d v f b (read_random_act d v f b) h
call_kept g (Moves WriteRandom) p d v f b n h = kept d v f b (write_random_act d v f b) h
call_kept g Size p d v f b n h =
    let k = kept d v f [] (size_act d v f) h in
    record { state_is = k.state_is; volume_kept = k.volume_kept; fcb_kept = k.fcb_kept; buffer_kept = refl }
call_kept g SetRandom p d v f b n h =
    let k = kept d [] f [] (set_random_act d f) h in
    record { state_is = k.state_is; volume_kept = refl; fcb_kept = k.fcb_kept; buffer_kept = refl }
call_kept g (Moves WriteZeroFill) p d v f b n h = kept d v f b (write_zero_fill_act d v f b) h
call_kept g (Moves ReadSeveral) p d v f b n h = several_kept read_sequential_leaves read_refuses d v f b p h
call_kept g (Moves WriteSeveral) p d v f b n h = several_kept write_sequential_leaves write_refuses d v f b p h
call_kept g Unserved p d v f b n h = kept d v f b (deny NotServed) h

-- ---- a refused log-in
log_in_closed : (g : Geometry) (v : List ℕ) → succeeded (log_in g v).answer ≡ false → (log_in g v).drive ≡ closed
unfolding log_in
log_in_closed g v h = go (is_none (first_met (log_in_tests g v))) refl h
  where
    go : (t : Bool) → is_none (first_met (log_in_tests g v)) ≡ t → succeeded (log_in g v).answer ≡ false → (log_in g v).drive ≡ closed
    go true e f = absurd (true≢false (rw e at f))
    go false e f = rw e

closes : (g : Geometry) (k : Call) (p : ℕ) (d : Drive) (v f b : List ℕ) → k ≡ LogIn → succeeded (does g k p d v f b).answer ≡ false
    → Leaves (does g k p d v f b) closed v f b
unfolding does carries
closes g k p d v f b e h = rw e (record { state_is = log_in_closed g v (rw e at h); volume_kept = refl; fcb_kept = refl; buffer_kept = refl })

-- ---- what each call's answer says of its tests
module _ (d : Drive) (v f b : List ℕ) (ts : List Test) (m : ℕ) where
  says : (k : ℕ) (c : Change) (ss : List Store) (f' b' : List ℕ) → (is_none (first_met ts) ≡ true → k < m)
      → Says (outcome d v f b (unless ts (done k c ss f' b'))).answer ts (λ n. ltb n m)
  unfolding outcome unless
  says k c ss f' b' l = record { met = λ e. rw e (refl, refl); none = λ e. rw e (refl, lt-ltb k m (l e)) }

code_lt : (i : ℕ) → i % 4 < 4
code_lt i = omega arith

-- the user code, by the first of user's tests
user_low : (d : Drive) (p : ℕ) → is_none (first_met (user_tests d p)) ≡ true → d.user < 16
unfolding user_tests
user_low d p e =
    let o = is_open_lem d (not-false (is_open d) (unmet Closed _ _ refl e).0) in
    omega (arith, o.user15)

user_says : (d : Drive) (p : ℕ) → Says (outcome d [] [] [] (user_act d p)).answer (user_tests d p) (λ n. ltb n 16)
unfolding user_act
user_says d p = go (eqb p 255)
  where
    go : (t : Bool) → Says (outcome d [] [] [] (unless (user_tests d p) (cond t (done d.user keeps [] [] []) (done 0 (becomes p) [] [] [])))).answer (user_tests d p) (λ n. ltb n 16)
    go true = says d [] [] [] (user_tests d p) 16 d.user keeps [] [] [] (user_low d p)
    go false = says d [] [] [] (user_tests d p) 16 0 (becomes p) [] [] [] (λ e. omega arith)

pub log_in_says : (g : Geometry) (v : List ℕ) → Says (log_in g v).answer (log_in_tests g v) (λ n. ltb n 1)
unfolding log_in
log_in_says g v = record { met = λ e. rw e (refused_fails g v, refused_number g v e); none = λ e. rw e (refl, refl) }

unserved_says : (d : Drive) (v f b : List ℕ) → Says (outcome d v f b (deny NotServed)).answer (test NotServed true ∷ []) (λ n. ltb n 0)
unfolding outcome first_met
unserved_says d v f b = record { met = λ e. (refl, refl); none = λ e. absurd (false≢true e) }

module _ (g : Geometry) (p : ℕ) (d : Drive) (v f b : List ℕ) where
  pub call_says : (k : Call) → Says (does g k p d v f b).answer (tests_of g k p d v f b) (answers_of k)
  unfolding does carries open_act close_act size_act search_first_act search_next_act hit_act delete_act make_act rename_act attributes_act read_sequential_act read_random_act read_done write_sequential_act write_random_act write_zero_fill_act write_done protect_act set_random_act
  call_says LogIn = log_in_says g v
  call_says Open = says d v f [] (tests_of g Open p d v f b) 4 _ _ _ _ _ (λ e. code_lt _)
  call_says Close = says d v f [] (tests_of g Close p d v f b) 4 _ _ _ _ _ (λ e. code_lt _)
  call_says SearchFirst = says d v f b (tests_of g SearchFirst p d v f b) 4 _ _ _ _ _ (λ e. code_lt _)
  call_says SearchNext = says d v [] b (tests_of g SearchNext p d v f b) 4 _ _ _ _ _ (λ e. code_lt _)
  call_says Delete = says d v f [] (tests_of g Delete p d v f b) 1 _ _ _ _ _ (λ e. omega arith)
  call_says (Moves ReadSequential) = says d v f b (tests_of g (Moves ReadSequential) p d v f b) 1 _ _ _ _ _ (λ e. omega arith)
  call_says (Moves WriteSequential) = says d v f b (tests_of g (Moves WriteSequential) p d v f b) 1 _ _ _ _ _ (λ e. omega arith)
  call_says Make = says d v f [] (tests_of g Make p d v f b) 4 _ _ _ _ _ (λ e. code_lt _)
  call_says Rename = says d v f [] (tests_of g Rename p d v f b) 1 _ _ _ _ _ (λ e. omega arith)
  call_says Protect = says d [] [] [] (tests_of g Protect p d v f b) 1 _ _ _ _ _ (λ e. omega arith)
  call_says Attributes = says d v f [] (tests_of g Attributes p d v f b) 1 _ _ _ _ _ (λ e. omega arith)
  call_says User = user_says d p
  call_says (Moves ReadRandom) = says d v f b (tests_of g (Moves ReadRandom) p d v f b) 1 _ _ _ _ _ (λ e. omega arith)
  call_says (Moves WriteRandom) = says d v f b (tests_of g (Moves WriteRandom) p d v f b) 1 _ _ _ _ _ (λ e. omega arith)
  call_says Size = says d v f [] (tests_of g Size p d v f b) 1 _ _ _ _ _ (λ e. omega arith)
  call_says SetRandom = says d [] f [] (tests_of g SetRandom p d v f b) 1 _ _ _ _ _ (λ e. omega arith)
  call_says (Moves WriteZeroFill) = says d v f b (tests_of g (Moves WriteZeroFill) p d v f b) 1 _ _ _ _ _ (λ e. omega arith)
  call_says (Moves ReadSeveral) = read_says d v f b p
  call_says (Moves WriteSeveral) = write_says d v f b p
  call_says Unserved = unserved_says d v f b

-- ---- the order of tests, by computation
tests_are : (g : Geometry) (k : Call) (p : ℕ) (d : Drive) (v f b : List ℕ) → reasons (tests_of g k p d v f b) ≡ refusals_of k
unfolding log_in_tests open_tests close_tests size_tests first_tests next_tests delete_ladder delete_tests make_ladder make_tests rename_ladder rename_tests attributes_ladder sequential_tests random_tests read_tests write_tests protect_tests user_tests set_random_tests several_tests
tests_are g LogIn p d v f b = refl
tests_are g Open p d v f b = refl
tests_are g Close p d v f b = refl
tests_are g SearchFirst p d v f b = refl
tests_are g SearchNext p d v f b = refl
tests_are g Delete p d v f b = refl
tests_are g (Moves ReadSequential) p d v f b = refl
tests_are g (Moves WriteSequential) p d v f b = refl
tests_are g Make p d v f b = refl
tests_are g Rename p d v f b = refl
tests_are g Protect p d v f b = refl
tests_are g Attributes p d v f b = refl
tests_are g User p d v f b = refl
tests_are g (Moves ReadRandom) p d v f b = refl
tests_are g (Moves WriteRandom) p d v f b = refl
tests_are g Size p d v f b = refl
tests_are g SetRandom p d v f b = refl
tests_are g (Moves WriteZeroFill) p d v f b = refl
tests_are g (Moves ReadSeveral) p d v f b = refl
tests_are g (Moves WriteSeveral) p d v f b = refl
tests_are g Unserved p d v f b = refl

in_table_order : (k : Call) → k ≢ Unserved → in_order (refusals_of k) paper_table ≡ true
in_table_order LogIn n = refl
in_table_order Open n = refl
in_table_order Close n = refl
in_table_order SearchFirst n = refl
in_table_order SearchNext n = refl
in_table_order Delete n = refl
in_table_order (Moves ReadSequential) n = refl
in_table_order (Moves WriteSequential) n = refl
in_table_order Make n = refl
in_table_order Rename n = refl
in_table_order Protect n = refl
in_table_order Attributes n = refl
in_table_order User n = refl
in_table_order (Moves ReadRandom) n = refl
in_table_order (Moves WriteRandom) n = refl
in_table_order Size n = refl
in_table_order SetRandom n = refl
in_table_order (Moves WriteZeroFill) n = refl
in_table_order (Moves ReadSeveral) n = refl
in_table_order (Moves WriteSeveral) n = refl
in_table_order Unserved n = absurd (n refl)

-- ---- all together
pub step_says : (g : Geometry) (c : Asked) (d : Drive) (v : List ℕ) → Says (step g c d v).answer (tests g c d v) (answers_of (call c))
unfolding step
step_says g c d v = call_says g c.parameter d v c.fcb c.buffer (call c)

refusal_among : (g : Geometry) (c : Asked) (d : Drive) (v : List ℕ) → succeeded (step g c d v).answer ≡ false
    → among (number_of (step g c d v).answer) (numbers_of (refusals_of (call c))) ≡ true
refusal_among g c d v h =
    let s = step_says g c d v in
    let m = was_met s h in
    rw ((s.met m).1, ← tests_are g (call c) c.parameter d v c.fcb c.buffer) (number_among (tests g c d v) m)

pub demand1 : Demand1
unfolding step
demand1 = record {
  refused_leaves_all = λ g c d v. call_kept g (call c) c.parameter d v c.fcb c.buffer;
  refused_log_in_closes = λ g c d v. closes g (call c) c.parameter d v c.fcb c.buffer;
  success_of_paper = λ g c d v h. let s = step_says g c d v in (s.none (was_none s h)).1;
  refusal_of_paper = refusal_among;
  first_test_refuses = λ g c d v. (step_says g c d v).met;
  no_test_succeeds = λ g c d v h. ((step_says g c d v).none h).0;
  tests_are = tests_are;
  in_table_order = in_table_order;
  table_numbers = refl;
}
