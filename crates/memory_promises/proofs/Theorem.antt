-- The promises, each under its name, and what they rest on: what the calls keep (RulesKept) and room in the reader's words (RoomPlaces).
use mathlib.Core.Path.{◌≡◌, refl, ap, ◌∙◌}
use mathlib.Core.Bool.{Bool, true, false, cond, ◌&&◌, ◌||◌, true≢false}
use mathlib.Core.List.{List, [], ◌∷◌, ◌++◌}
use mathlib.Core.Logic.{⊎_elim}
use Prim.Native.Nat.{ℕ, ◌≤◌, ◌<◌, min}
use native.Mathlib.Omega.{arith}
use borrow.Author.Tests.{ltb-true, ltb-false, lt-ltb, eqb-true, ne_eqb, eqb-false}
use lib.Dec.{leb, ltb, eqb}
use lib.ListN.{length, take, length-take, length-append}
use Rattle.std.specs.Prelude.{Ok, Err}
use Rattle.memory_spans.specs.declared.Span.{Span}
use Rattle.memory_spans.specs.Span.{places, paragraphs, span}
use Rattle.memory_spans.specs.Room.{room, has_room, free}
use Rattle.memory_spans.proofs.RulesLaws.{Lawful, lawful_facts, lawful_test}
use Rattle.memory_spans.proofs.RoomLaws.{room_facts, room_test, has_roomy}
use Rattle.memory_room.specs.Starts.{lowest_start, longest}
use Rattle.memory_room.proofs.MostLaws.{most_from_at}
use Rattle.memory_room.proofs.CandidateLaws.{longest_there}
use Rattle.memory_regions.specs.Freeing.{freeable, freed}
use Rattle.memory_regions.proofs.PlaceLaws.{padded_used}
use Rattle.memory_calls.specs.declared.Table.{Table}
use Rattle.memory_calls.specs.declared.Mcb.{Mcb}
use Rattle.memory_calls.specs.declared.Reply.{Reply}
use Rattle.memory_calls.specs.declared.Refusal.{Refusal}
use Rattle.memory_calls.specs.declared.Refusal.TheVariants.{NotServed, Rules, NoPlace, NoRoom, BadFree}
use Rattle.memory_calls.specs.Answer.{Answer}
use Rattle.memory_calls.specs.Table.{pieces_of, regions_of, with_regions, within_rules}
use Rattle.memory_calls.specs.Calls.{refused, done, longest_run_of, tested, granting, granted, granted_at, freeing, freeing_part, free_all, serve, memory_call}
use Rattle.memory_calls.proofs.CallLaws.{Within, within_facts, within_test}
use Rattle.memory_promises.specs.Promises.{RefusalAltersNothing, after, Kept, StaysWithinRules, Room, NoRoomExactly, NoRoomMeansNoRoom, LongestRun, GivesLongestRun, Restored, GrantThenFree}
use Rattle.memory_promises.proofs.RulesKept.{grant_keeps, free_keeps, clear_keeps, freed_length, freed_last, freeable_last, roomy_clear}
use Rattle.memory_promises.proofs.StartLaws.{lowest_has, lowest_low, lowest_none, none_lowest}
use Rattle.memory_promises.proofs.RoomPlaces.{room_none, has_room_lem, room_has, no_room, apart_once, inside_at}

-- ---- a property of every outcome, by the tests of a call
pub split : (P : Reply → Type 0) (test : Bool) (x y : Reply) → (test ≡ true → P x) → (test ≡ false → P y) → P (cond test x y)
split P test x y a b = go test refl
  where
    go : (t : Bool) → test ≡ t → P (cond t x y)
    go true e = a e
    go false e = b e

pub served : (P : Reply → Type 0) (f : ℕ) (t : Table) (b : Mcb)
    → P (longest_run_of t b)
    → P (tested t b)
    → P (granted t b)
    → P (granted_at t b)
    → P (freeing t b)
    → P (free_all t b)
    → P (serve f t b)
unfolding serve
served P f t b p q r s u v =
    split P (eqb f 53) _ _ (λ e. p)
    (λ e. split P (eqb f 54) _ _ (λ e. q) (λ e. split P (eqb f 55) _ _ (λ e. r) (λ e. split P (eqb f 56) _ _ (λ e. s) (λ e. split P (eqb f 57) _ _ (λ e. u) (λ e. v)))))

-- ---- a refusal alters nothing
data Outcome (t : Table) (b : Mcb) : Reply → Type 0 where
  denied : (why : Refusal) → Outcome t b (refused why t b)
  success : (r : Reply) → r.answer ≡ Ok tt → Outcome t b r

outcome : (f bytes : ℕ) (t : Table) (b : Mcb) → Outcome t b (memory_call f bytes t b)
unfolding memory_call longest_run_of tested granted granted_at freeing freeing_part
outcome f bytes t b =
    split (Outcome t b) (leb 53 f && leb f 58) _ _
    (λ e.
    split (Outcome t b) (within_rules bytes t) _ _
    (λ e.
    served (Outcome t b) f t b
    (split (Outcome t b) (eqb b.length 0 || eqb (longest (pieces_of t) (regions_of t)) 0) _ _ (λ e. denied NoRoom) (λ e. success _ refl))
    (split (Outcome t b) (has_room (pieces_of t) (regions_of t) b.length b.base) _ _ (λ e. success _ refl) (λ e. denied NoRoom))
    (split (Outcome t b) (ltb t.granted places) _ _
    (λ e. split (Outcome t b) (ltb (lowest_start (pieces_of t) (regions_of t) b.length) paragraphs) _ _ (λ e. success _ refl) (λ e. denied NoRoom))
    (λ e. denied NoPlace))
    (split (Outcome t b) (ltb t.granted places) _ _
    (λ e. split (Outcome t b) (has_room (pieces_of t) (regions_of t) b.length b.base) _ _ (λ e. success _ refl) (λ e. denied NoRoom))
    (λ e. denied NoPlace))
    (split (Outcome t b) (eqb b.ext 255) _ _ (λ e. success _ refl)
    (λ e. split (Outcome t b) (freeable (span b.base b.length) (regions_of t)) _ _ (λ e. success _ refl) (λ e. denied BadFree)))
    (success _ refl))
    (λ e. denied Rules))
    (λ e. denied NotServed)

pub refusal_alters_nothing : RefusalAltersNothing
refusal_alters_nothing f bytes t b why e = go (outcome f bytes t b) e
  where
    go : {r : Reply} → Outcome t b r → r.answer ≡ Err why → (r.table ≡ t) × (r.mcb ≡ b)
    go (denied w) q = (refl, refl)
    go (success r d) q = let z : ◌≡◌ {A = ℕ} 0 1 = cc in absurd (omega arith)

-- ---- the rules are kept
with_rules : (bytes : ℕ) (t : Table) → Within bytes t → (l : List Span) → length l ≤ places → Lawful bytes (pieces_of t) l → within_rules bytes (with_regions t l) ≡ true
with_rules bytes t w l h k =
    within_test bytes (with_regions t l) (record { few_pieces = w.few_pieces; few_regions = h; law = rw (padded_used places l h) (lawful_test bytes (pieces_of t) l k) })

used_le : (arr : List Span) (m : ℕ) → length (take m arr) ≤ m
used_le arr m = rw length-take (omega arith)

module _ (bytes : ℕ) (t : Table) (b : Mcb) (w : Within bytes t) where
  law : Lawful bytes (pieces_of t) (regions_of t)
  law = lawful_facts bytes (pieces_of t) (regions_of t) w.law

  granting_keeps : (s : ℕ) → t.granted < places → has_room (pieces_of t) (regions_of t) b.length s ≡ true → within_rules bytes (granting t s b.length).table ≡ true
  granting_keeps s h e =
      with_rules bytes t w (regions_of t ++ (span s b.length ∷ []))
      (rw length-append (omega (arith, used_le t.regions t.granted)))
      (grant_keeps bytes (pieces_of t) (regions_of t) b.length s law (has_roomy (pieces_of t) (regions_of t) b.length s e))

  clearing_keeps : within_rules bytes (with_regions t []) ≡ true
  clearing_keeps = with_rules bytes t w [] (omega arith) (clear_keeps bytes (pieces_of t) (regions_of t) law)

  freeing_keeps : (part : Span) → within_rules bytes (with_regions t (freed part (regions_of t))) ≡ true
  freeing_keeps part =
      with_rules bytes t w (freed part (regions_of t))
      (omega (arith, freed_length part (regions_of t), used_le t.regions t.granted, w.few_regions))
      (free_keeps bytes (pieces_of t) (regions_of t) part law)

  serve_keeps : (f : ℕ) → within_rules bytes (serve f t b).table ≡ true
  unfolding longest_run_of tested granted granted_at freeing freeing_part
  serve_keeps f =
      served (λ r. within_rules bytes r.table ≡ true) f t b
      (split (λ r. within_rules bytes r.table ≡ true) (eqb b.length 0 || eqb (longest (pieces_of t) (regions_of t)) 0) _ _ (λ e. same) (λ e. same))
      (split (λ r. within_rules bytes r.table ≡ true) (has_room (pieces_of t) (regions_of t) b.length b.base) _ _ (λ e. same) (λ e. same))
      (split (λ r. within_rules bytes r.table ≡ true) (ltb t.granted places) _ _
      (λ e.
      split (λ r. within_rules bytes r.table ≡ true) (ltb (lowest_start (pieces_of t) (regions_of t) b.length) paragraphs) _ _
      (λ f.
      granting_keeps (lowest_start (pieces_of t) (regions_of t) b.length) (ltb-true t.granted places e)
      (lowest_has (pieces_of t) (regions_of t) b.length (ltb-true (lowest_start (pieces_of t) (regions_of t) b.length) paragraphs f)))
      (λ f. same))
      (λ e. same))
      (split (λ r. within_rules bytes r.table ≡ true) (ltb t.granted places) _ _
      (λ e.
      split (λ r. within_rules bytes r.table ≡ true) (has_room (pieces_of t) (regions_of t) b.length b.base) _ _
      (λ f. granting_keeps b.base (ltb-true t.granted places e) f)
      (λ f. same))
      (λ e. same))
      (split (λ r. within_rules bytes r.table ≡ true) (eqb b.ext 255) _ _ (λ e. clearing_keeps)
      (λ e.
      split (λ r. within_rules bytes r.table ≡ true) (freeable (span b.base b.length) (regions_of t)) _ _
      (λ f. freeing_keeps (span b.base b.length))
      (λ f. same)))
      clearing_keeps
    where
      same : within_rules bytes t ≡ true
      same = within_test bytes t w

pub call_keeps : (f bytes : ℕ) (t : Table) (b : Mcb) → within_rules bytes t ≡ true → within_rules bytes (memory_call f bytes t b).table ≡ true
unfolding memory_call
call_keeps f bytes t b e =
    split (λ r. within_rules bytes r.table ≡ true) (leb 53 f && leb f 58) _ _
    (λ x. split (λ r. within_rules bytes r.table ≡ true) (within_rules bytes t) _ _ (λ y. serve_keeps bytes t b (within_facts bytes t e) f) (λ y. e))
    (λ x. e)

pub kept : (bytes : ℕ) (t : Table) → within_rules bytes t ≡ true → Kept bytes t
kept bytes t e =
    let l = lawful_facts bytes (pieces_of t) (regions_of t) (within_facts bytes t e).law in
    record { rules = e; once = apart_once (regions_of t) l.regions_apart; inside = inside_at (pieces_of t) (regions_of t) l.in_one }

pub stays_within_rules : StaysWithinRules
unfolding after
stays_within_rules bytes t e [] = kept bytes t e
stays_within_rules bytes t e (c ∷ cs) = stays_within_rules bytes (memory_call c.function bytes t c.mcb).table (call_keeps c.function bytes t c.mcb e) cs

-- ---- 62 exactly where no such room exists
call_is : (f bytes : ℕ) (t : Table) (b : Mcb) → (leb 53 f && leb f 58) ≡ true → within_rules bytes t ≡ true → memory_call f bytes t b ≡ serve f t b
unfolding memory_call
call_is f bytes t b a e = rw (a, e)

only_true : (test : Bool) (x y : Reply) → y.answer ≡ Ok tt → (cond test x y).answer ≡ Err NoRoom → test ≡ true
only_true true x y d e = refl
only_true false x y d e = let z : ◌≡◌ {A = ℕ} 0 1 = cc in absurd (omega arith)

only_false : (test : Bool) (x y : Reply) → x.answer ≡ Ok tt → (cond test x y).answer ≡ Err NoRoom → test ≡ false
only_false false x y d e = refl
only_false true x y d e = let z : ◌≡◌ {A = ℕ} 0 1 = cc in absurd (omega arith)

room_le_longest : (pieces regions : List Span) (s : ℕ) → s < paragraphs → room pieces regions s ≤ longest pieces regions
unfolding longest
room_le_longest pieces regions s h = most_from_at (room pieces regions) 0 paragraphs s (omega arith) (omega arith)

module _ (bytes : ℕ) (t : Table) (b : Mcb) (e : within_rules bytes t ≡ true) where
  no_run : (eqb b.length 0 || eqb (longest (pieces_of t) (regions_of t)) 0) ≡ true → (s k : ℕ) → s < 65536 → k ≤ b.length → Room (pieces_of t) (regions_of t) k s → ⊥
  no_run h s k a c r = go (eqb b.length 0) refl h
    where
      f : (0 < k) × (k ≤ room (pieces_of t) (regions_of t) s)
      f = room_facts (pieces_of t) (regions_of t) k s (room_has (pieces_of t) (regions_of t) k s r)

      go : (x : Bool) → eqb b.length 0 ≡ x → (x || eqb (longest (pieces_of t) (regions_of t)) 0) ≡ true → ⊥
      go true u v = omega (arith, eqb-true b.length 0 u, f.0)
      go false u v = omega (arith, eqb-true (longest (pieces_of t) (regions_of t)) 0 v, room_le_longest (pieces_of t) (regions_of t) s a, f.0, f.1)

  run_none : ((s k : ℕ) → s < 65536 → k ≤ b.length → Room (pieces_of t) (regions_of t) k s → ⊥) → (eqb b.length 0 || eqb (longest (pieces_of t) (regions_of t)) 0) ≡ true
  run_none h = go (eqb b.length 0) (eqb (longest (pieces_of t) (regions_of t)) 0) refl refl
    where
      go : (x y : Bool) → eqb b.length 0 ≡ x → eqb (longest (pieces_of t) (regions_of t)) 0 ≡ y → (x || y) ≡ true
      go true y u v = refl
      go false true u v = refl
      go false false u v =
          let n = eqb-false b.length 0 u in
          let m = eqb-false (longest (pieces_of t) (regions_of t)) 0 v in
          let k = longest (pieces_of t) (regions_of t) in
          let a = longest_there (pieces_of t) (regions_of t) (omega (arith, m)) in
          let s = lowest_start (pieces_of t) (regions_of t) (longest (pieces_of t) (regions_of t)) in
          let f = room_facts (pieces_of t) (regions_of t) (longest (pieces_of t) (regions_of t)) (lowest_start (pieces_of t) (regions_of t) (longest (pieces_of t) (regions_of t))) (lowest_has (pieces_of t) (regions_of t) (longest (pieces_of t) (regions_of t)) a) in
          absurd
          (h (lowest_start (pieces_of t) (regions_of t) (longest (pieces_of t) (regions_of t))) 1 a (omega (arith, n))
          (has_room_lem (pieces_of t) (regions_of t) 1 (lowest_start (pieces_of t) (regions_of t) (longest (pieces_of t) (regions_of t)))
          (room_test (pieces_of t) (regions_of t) 1 (lowest_start (pieces_of t) (regions_of t) (longest (pieces_of t) (regions_of t))) (omega arith) (omega (arith, f.0, f.1)))))

  answer_53 : memory_call 53 bytes t b ≡ longest_run_of t b
  unfolding serve
  answer_53 = call_is 53 bytes t b refl e

  answer_54 : memory_call 54 bytes t b ≡ tested t b
  unfolding serve
  answer_54 = call_is 54 bytes t b refl e

  answer_55 : memory_call 55 bytes t b ≡ granted t b
  unfolding serve
  answer_55 = call_is 55 bytes t b refl e

  answer_56 : memory_call 56 bytes t b ≡ granted_at t b
  unfolding serve
  answer_56 = call_is 56 bytes t b refl e

  run_refused : (longest_run_of t b).answer ≡ Err NoRoom → (eqb b.length 0 || eqb (longest (pieces_of t) (regions_of t)) 0) ≡ true
  unfolding longest_run_of
  run_refused h = only_true (eqb b.length 0 || eqb (longest (pieces_of t) (regions_of t)) 0) _ _ refl h

  refused_run : (eqb b.length 0 || eqb (longest (pieces_of t) (regions_of t)) 0) ≡ true → (longest_run_of t b).answer ≡ Err NoRoom
  unfolding longest_run_of
  refused_run h = rw h

  test_refused : (tested t b).answer ≡ Err NoRoom → has_room (pieces_of t) (regions_of t) b.length b.base ≡ false
  unfolding tested
  test_refused h = only_false (has_room (pieces_of t) (regions_of t) b.length b.base) _ _ refl h

  refused_test : has_room (pieces_of t) (regions_of t) b.length b.base ≡ false → (tested t b).answer ≡ Err NoRoom
  unfolding tested
  refused_test h = rw h

  grant_refused : t.granted < places → (granted t b).answer ≡ Err NoRoom → ltb (lowest_start (pieces_of t) (regions_of t) b.length) paragraphs ≡ false
  unfolding granted
  grant_refused g h = only_false (ltb (lowest_start (pieces_of t) (regions_of t) b.length) paragraphs) _ _ refl (rw (lt-ltb t.granted places g) at h)

  refused_grant : t.granted < places → ltb (lowest_start (pieces_of t) (regions_of t) b.length) paragraphs ≡ false → (granted t b).answer ≡ Err NoRoom
  unfolding granted
  refused_grant g h = rw (lt-ltb t.granted places g, h)

  at_refused : t.granted < places → (granted_at t b).answer ≡ Err NoRoom → has_room (pieces_of t) (regions_of t) b.length b.base ≡ false
  unfolding granted_at
  at_refused g h = only_false (has_room (pieces_of t) (regions_of t) b.length b.base) _ _ refl (rw (lt-ltb t.granted places g) at h)

  refused_at : t.granted < places → has_room (pieces_of t) (regions_of t) b.length b.base ≡ false → (granted_at t b).answer ≡ Err NoRoom
  unfolding granted_at
  refused_at g h = rw (lt-ltb t.granted places g, h)

  exactly : NoRoomExactly bytes t b
  exactly =
      record {
        longest_run = (
          λ h. no_run (run_refused (rw answer_53 at h)),
          λ h. rw answer_53 (refused_run (run_none h)),
        );
        test = (
          λ h. room_none (pieces_of t) (regions_of t) b.length b.base (test_refused (rw answer_54 at h)),
          λ h. rw answer_54 (refused_test (no_room (pieces_of t) (regions_of t) b.length b.base h)),
        );
        grant = λ g. (
          λ h s a.
              room_none (pieces_of t) (regions_of t) b.length s
              (lowest_none (pieces_of t) (regions_of t) b.length (ltb-false (lowest_start (pieces_of t) (regions_of t) b.length) paragraphs (grant_refused g (rw answer_55 at h))) s a),
          λ h. rw answer_55 (refused_grant g (none_lowest (pieces_of t) (regions_of t) b.length (λ s a. no_room (pieces_of t) (regions_of t) b.length s (h s a)))),
        );
        grant_at_lem = λ g. (
          λ h. room_none (pieces_of t) (regions_of t) b.length b.base (at_refused g (rw answer_56 at h)),
          λ h. rw answer_56 (refused_at g (no_room (pieces_of t) (regions_of t) b.length b.base h)),
        );
      }

pub no_room_means_no_room : NoRoomMeansNoRoom
no_room_means_no_room bytes t b e = exactly bytes t b e

not_done : {A : Type 0} (why : Refusal) → ◌≡◌ {A = Answer} (Err why) (Ok tt) → A
not_done why e = let z : ◌≡◌ {A = ℕ} 0 1 = cc in absurd (omega arith)

ruled : (f bytes : ℕ) (t : Table) (b : Mcb) → (leb 53 f && leb f 58) ≡ true → (memory_call f bytes t b).answer ≡ Ok tt → within_rules bytes t ≡ true
unfolding memory_call
ruled f bytes t b a e = go (within_rules bytes t) refl (rw a at e)
  where
    go : (x : Bool) → within_rules bytes t ≡ x → (cond x (serve f t b) (refused Rules t b)).answer ≡ Ok tt → within_rules bytes t ≡ true
    go true u v = u
    go false u v = not_done Rules v

-- ---- 53 gives the longest run
not_either : (a b : Bool) → (a || b) ≡ false → (a ≡ false) × (b ≡ false)
not_either false b e = (refl, e)
not_either true b e = absurd (true≢false e)

longest_given : (t : Table) (b : Mcb) → (longest_run_of t b).answer ≡ Ok tt → LongestRun t b (longest_run_of t b)
unfolding longest_run_of
longest_given t b d = go (eqb b.length 0 || eqb (longest (pieces_of t) (regions_of t)) 0) refl d
  where
    go : (x : Bool)
        → (eqb b.length 0 || eqb (longest (pieces_of t) (regions_of t)) 0) ≡ x
        → (cond x (refused NoRoom t b) (done t (lowest_start (pieces_of t) (regions_of t) (longest (pieces_of t) (regions_of t))) (min (longest (pieces_of t) (regions_of t)) b.length))).answer ≡ Ok tt
        → LongestRun t b (cond x (refused NoRoom t b) (done t (lowest_start (pieces_of t) (regions_of t) (longest (pieces_of t) (regions_of t))) (min (longest (pieces_of t) (regions_of t)) b.length)))
    go true u v = not_done NoRoom v
    go false u v =
        let n = eqb-false (longest (pieces_of t) (regions_of t)) 0 (not_either (eqb b.length 0) (eqb (longest (pieces_of t) (regions_of t)) 0) u).1 in
        let h = longest_there (pieces_of t) (regions_of t) (omega (arith, n)) in
        record {
          run = longest (pieces_of t) (regions_of t);
          there =
              has_room_lem (pieces_of t) (regions_of t) (longest (pieces_of t) (regions_of t)) (lowest_start (pieces_of t) (regions_of t) (longest (pieces_of t) (regions_of t)))
              (lowest_has (pieces_of t) (regions_of t) (longest (pieces_of t) (regions_of t)) h);
          longest = λ s k a r.
              omega (arith, (room_facts (pieces_of t) (regions_of t) k s (room_has (pieces_of t) (regions_of t) k s r)).1, room_le_longest (pieces_of t) (regions_of t) s a);
          lowest = λ s r.
              lowest_low (pieces_of t) (regions_of t) (longest (pieces_of t) (regions_of t)) s h (room_has (pieces_of t) (regions_of t) (longest (pieces_of t) (regions_of t)) s r);
          cut = refl;
          table = refl;
        }

pub gives_longest_run : GivesLongestRun
gives_longest_run bytes t b d =
    let w = ruled 53 bytes t b refl d in
    rw (answer_53 bytes t b w) (longest_given t b (rw (answer_53 bytes t b w) at d))

-- ---- a grant and the free of the same region
record Gave (bytes : ℕ) (t : Table) (b : Mcb) (r : Reply) : Type 0 where
  pub rules : within_rules bytes t ≡ true
  pub place : t.granted < places
  pub start : ℕ
  pub has : has_room (pieces_of t) (regions_of t) b.length start ≡ true
  pub is : r ≡ granting t start b.length

gave_55 : (bytes : ℕ) (t : Table) (b : Mcb) → within_rules bytes t ≡ true → (granted t b).answer ≡ Ok tt → Gave bytes t b (granted t b)
unfolding granted
gave_55 bytes t b w e = go (ltb t.granted places) (ltb (lowest_start (pieces_of t) (regions_of t) b.length) paragraphs) refl refl e
  where
    go : (x y : Bool)
        → ltb t.granted places ≡ x
        → ltb (lowest_start (pieces_of t) (regions_of t) b.length) paragraphs ≡ y
        → (cond x (cond y (granting t (lowest_start (pieces_of t) (regions_of t) b.length) b.length) (refused NoRoom t b)) (refused NoPlace t b)).answer ≡ Ok tt
        → Gave bytes t b (cond x (cond y (granting t (lowest_start (pieces_of t) (regions_of t) b.length) b.length) (refused NoRoom t b)) (refused NoPlace t b))
    go true true u v d =
        record {
          rules = w;
          place = ltb-true t.granted places u;
          start = lowest_start (pieces_of t) (regions_of t) b.length;
          has = lowest_has (pieces_of t) (regions_of t) b.length (ltb-true (lowest_start (pieces_of t) (regions_of t) b.length) paragraphs v);
          is = refl;
        }
    go true false u v d = not_done NoRoom d
    go false y u v d = not_done NoPlace d

gave_56 : (bytes : ℕ) (t : Table) (b : Mcb) → within_rules bytes t ≡ true → (granted_at t b).answer ≡ Ok tt → Gave bytes t b (granted_at t b)
unfolding granted_at
gave_56 bytes t b w e = go (ltb t.granted places) (has_room (pieces_of t) (regions_of t) b.length b.base) refl refl e
  where
    go : (x y : Bool)
        → ltb t.granted places ≡ x
        → has_room (pieces_of t) (regions_of t) b.length b.base ≡ y
        → (cond x (cond y (granting t b.base b.length) (refused NoRoom t b)) (refused NoPlace t b)).answer ≡ Ok tt
        → Gave bytes t b (cond x (cond y (granting t b.base b.length) (refused NoRoom t b)) (refused NoPlace t b))
    go true true u v d = record { rules = w; place = ltb-true t.granted places u; start = b.base; has = v; is = refl }
    go true false u v d = not_done NoRoom d
    go false y u v d = not_done NoPlace d

-- the free of the region granted last
again : (bytes : ℕ) (t : Table) (b : Mcb) (r : Reply) → (g : Gave bytes t b r)
    → freeing_part (granting t g.start b.length).table (granting t g.start b.length).mcb
    ≡ done (with_regions (granting t g.start b.length).table (regions_of t)) g.start b.length
unfolding freeing_part freeable
again bytes t b r g =
    rw (
      padded_used places (regions_of t ++ (span g.start b.length ∷ [])) size,
      ne_eqb b.length 0 (λ z. omega (arith, f.0)),
      freeable_last (regions_of t) (span g.start b.length),
      freed_last (span g.start b.length) (regions_of t) f.0 (roomy_clear (pieces_of t) (regions_of t) b.length g.start (has_roomy (pieces_of t) (regions_of t) b.length g.start g.has)),
    )
  where
    size : length (regions_of t ++ (span g.start b.length ∷ [])) ≤ places
    size = rw length-append (omega (arith, used_le t.regions t.granted, g.place))

    f : (0 < b.length) × (b.length ≤ room (pieces_of t) (regions_of t) g.start)
    f = room_facts (pieces_of t) (regions_of t) b.length g.start g.has

freed_again : (bytes : ℕ) (t : Table) (b : Mcb) (r : Reply) → (g : Gave bytes t b r)
    → memory_call 57 bytes r.table r.mcb ≡ done (with_regions (granting t g.start b.length).table (regions_of t)) g.start b.length
unfolding serve freeing
freed_again bytes t b r g =
    rw g.is
    (call_is 57 bytes (granting t g.start b.length).table (granting t g.start b.length).mcb refl
    (granting_keeps bytes t b (within_facts bytes t g.rules) g.start g.place g.has)
    ∙ again bytes t b r g)

-- the same request, on two tables with the same pieces and regions and a place left
record Alike (t u : Table) : Type 0 where
  pub pieces : pieces_of u ≡ pieces_of t
  pub regions : regions_of u ≡ regions_of t
  pub place : t.granted < places
  pub place_u : u.granted < places

abbrev SameReply : Reply → Reply → Type 0
SameReply r q = (r.answer ≡ q.answer) × (r.mcb ≡ q.mcb)

either : (t u : Table) (b : Mcb) (k : ℕ) {x y : Bool} {r s : ℕ} → x ≡ y → r ≡ s
    → SameReply (cond x (granting u r k) (refused NoRoom u b)) (cond y (granting t s k) (refused NoRoom t b))
either t u b k {x} {y} {r} {s} e f = rw e (go y)
  where
    go : (z : Bool) → SameReply (cond z (granting u r k) (refused NoRoom u b)) (cond z (granting t s k) (refused NoRoom t b))
    go true = (refl, rw f)
    go false = (refl, refl)

placed : (t u : Table) → Alike t u → (r s b c : Reply) → SameReply r s → SameReply (cond (ltb u.granted places) r b) (cond (ltb t.granted places) s c)
placed t u a r s b c e = rw (lt-ltb u.granted places a.place_u, lt-ltb t.granted places a.place) e

same_55 : (t u : Table) (b : Mcb) → Alike t u → SameReply (granted u b) (granted t b)
unfolding granted
same_55 t u b a =
    let e : lowest_start (pieces_of u) (regions_of u) b.length ≡ lowest_start (pieces_of t) (regions_of t) b.length = rw (a.pieces, a.regions) in
    placed t u a _ _ _ _ (either t u b b.length (ap (λ (s : ℕ). ltb s paragraphs) e) e)

same_56 : (t u : Table) (b : Mcb) → Alike t u → SameReply (granted_at u b) (granted_at t b)
unfolding granted_at
same_56 t u b a =
    let e : has_room (pieces_of u) (regions_of u) b.length b.base ≡ has_room (pieces_of t) (regions_of t) b.length b.base = rw (a.pieces, a.regions) in
    placed t u a _ _ _ _ (either t u b b.length e refl)

-- a grant, the free of what it granted, and the same request again; `call` is 55 or 56 on a table within the rules
module _ (f bytes : ℕ) (t : Table) (b : Mcb) (call : Table → Reply)
    (is : (x : Table) → within_rules bytes x ≡ true → memory_call f bytes x b ≡ call x)
    (same : (u : Table) → Alike t u → SameReply (call u) (call t))
    (g : Gave bytes t b (call t)) (d : (call t).answer ≡ Ok tt) where
  few : length (regions_of t) < places
  few = omega (arith, used_le t.regions t.granted, g.place)

  u : Table
  u = with_regions t (regions_of t)

  ruled_u : within_rules bytes u ≡ true
  unfolding u
  ruled_u =
      let w = within_facts bytes t g.rules in
      with_rules bytes t w (regions_of t) (omega (arith, few)) (lawful_facts bytes (pieces_of t) (regions_of t) w.law)

  alike : Alike t u
  unfolding u
  alike = record { pieces = refl; regions = padded_used places (regions_of t) (omega (arith, few)); place = g.place; place_u = few }

  restored : Restored f bytes t b (memory_call 57 bytes (call t).table (call t).mcb)
  unfolding u
  restored =
      let e = freed_again bytes t b (call t) g in
      let z : (memory_call 57 bytes (call t).table (call t).mcb).table ≡ u = ap (λ (x : Reply). x.table) e in
      let y = is u ruled_u in
      let x = is t g.rules in
      record {
        done = ap (λ (x : Reply). x.answer) e;
        regions = rw z alike.regions;
        same_free = λ p. rw z (ap (λ (l : List Span). free (pieces_of t) l p) alike.regions);
        again = rw (z, y) ((same u alike).0 ∙ d);
        same_region = rw (z, y, x) (same u alike).1;
      }

pub grant_then_free : GrantThenFree
grant_then_free f bytes t b c d = ⊎_elim (λ e. go_55 e) (λ e. go_56 e) c
  where
    go_55 : f ≡ 55 → Restored f bytes t b (memory_call 57 bytes (memory_call f bytes t b).table (memory_call f bytes t b).mcb)
    go_55 e =
        let d' : (memory_call 55 bytes t b).answer ≡ Ok tt = rw e at d in
        let w = ruled 55 bytes t b refl d' in
        let a = rw (answer_55 bytes t b w) at d' in
        rw (e, answer_55 bytes t b w) (restored 55 bytes t b (λ x. granted x b) (λ x h. answer_55 bytes x b h) (λ x h. same_55 t x b h) (gave_55 bytes t b w a) a)

    go_56 : f ≡ 56 → Restored f bytes t b (memory_call 57 bytes (memory_call f bytes t b).table (memory_call f bytes t b).mcb)
    go_56 e =
        let d' : (memory_call 56 bytes t b).answer ≡ Ok tt = rw e at d in
        let w = ruled 56 bytes t b refl d' in
        let a = rw (answer_56 bytes t b w) at d' in
        rw (e, answer_56 bytes t b w) (restored 56 bytes t b (λ x. granted_at x b) (λ x h. answer_56 bytes x b h) (λ x h. same_56 t x b h) (gave_56 bytes t b w a) a)
