-- The plan, by what its parts answer; and the plan carried out.
use mathlib.Core.Path.{◌≡◌, refl, sym, ap, ◌∙◌, subst}
use mathlib.Core.Bool.{Bool, true, false, ◌&&◌}
use mathlib.Core.List.{List}
use Prim.Native.Nat.{ℕ, ◌+◌, ◌-◌, ◌≤◌, ◌<◌}
use native.Mathlib.Omega.{arith}
use lib.Dec.{eqb, ltb}
use lib.ListN.{length}
use borrow.Author.Tests.{not-false, eqb-true, ltb-true, lt-ltb, le-ltb}
use Rattle.lists.specs.Bounded.{every_from, count_from}
use Rattle.lists.proofs.BoolLaws.{and_parts}
use Rattle.lists.proofs.BoundedLaws.{count_ext, every_true}
use Rattle.disk_stores.specs.Stores.{laid, cut}
use Rattle.disk_stores.proofs.LaidLaws.{cut_enough}
use Rattle.disk_stores.proofs.CodeLaws.{cut_none}
use Rattle.call_answers.specs.declared.Refusal.{Refusal}
use Rattle.call_answers.specs.declared.Refusal.TheVariants.{Closed, VolumeLength, FcbLength}
use Rattle.call_answers.specs.Refusal.{is_none, first_met}
use Rattle.call_answers.proofs.Ladder.{unmet}
use Rattle.filecalls.specs.declared.Front.{Front}
use Rattle.filecalls.specs.declared.Drive.{Drive}
use Rattle.filecalls.specs.CodeFront.{front_of, joined}
use Rattle.filecalls.specs.Change.{change_tests}
use Rattle.desk_contents.specs.Contents.{first_at, count_at, total, good_contents, chapter_place}
use Rattle.desk_contents.proofs.ContentsLaws.{total_in, body_in}
use Rattle.desk.specs.declared.Why.{Why}
use Rattle.desk.specs.declared.Why.TheVariants.{Call, Contents}
use Rattle.std.specs.Prelude.{Result, Ok, Err}
use Rattle.desk.specs.Answer.{value_of}
use Rattle.desk.specs.Records.{unread, readable, record_shown, bears}
use Rattle.desk.specs.Replace.{left, allowed, plan_in, plan, carried_out, replacement}
use Rattle.desk.specs.Stores.{all_stores, plan_stores, replacement_stores, DeskCut, desk_cut, cut_replacement}
use Rattle.desk.specs.CodeDesk.{Stored, marked, Sifted, Marked, Planned}
use Rattle.desk.proofs.LoopLaws.{all_laid, all_most, count_most, stores_same}

-- a file whose tests have passed was lent a control block of 36 bytes
pub lent_fcb_lem : (d : Drive) (v f : List ℕ) → is_none (first_met (change_tests d v f)) ≡ true → length f ≡ 36
unfolding change_tests
lent_fcb_lem d v f e =
    let s = unmet Closed _ _ refl e in
    let x = unmet VolumeLength _ _ refl s.1 in
    let y = unmet FcbLength _ _ refl x.1 in
    eqb-true (length f) 36 (not-false (eqb (length f) 36) y.0)

-- ---- in the contents s
module _ (d : Drive) (v f s : List ℕ) (chapter : ℕ) where
  -- 50
  refuse : allowed d v f s chapter ≡ false → Err Contents ≡ plan_in d v f s chapter
  unfolding plan_in
  refuse e = rw e

  no_and : (a b : Bool) → a ≡ false → (a && b) ≡ false
  no_and a b e = rw e

  pub bad_contents : good_contents s ≡ false → Err Contents ≡ plan_in d v f s chapter
  unfolding allowed
  bad_contents e = refuse (no_and _ _ (no_and _ _ (no_and _ _ e)))

  module _ (g : good_contents s ≡ true) where
    pub too_many : 65536 ≤ total s 16 → Err Contents ≡ plan_in d v f s chapter
    unfolding allowed
    too_many h = refuse (rw (g, le-ltb (total s 16) 65536 h))

    module _ (few : total s 16 < 65536) where
      pub no_chapter : 16 ≤ chapter_place s chapter → Err Contents ≡ plan_in d v f s chapter
      unfolding allowed
      no_chapter h = refuse (rw (g, lt-ltb (total s 16) 65536 few, le-ltb (chapter_place s chapter) 16 h))

      module _ (there : chapter_place s chapter < 16) where
        pub not_all : every_from (readable d v f) 1 (total s 16) ≡ false → Err Contents ≡ plan_in d v f s chapter
        unfolding allowed
        not_all h = refuse (rw (g, lt-ltb (total s 16) 65536 few, lt-ltb (chapter_place s chapter) 16 there, h))

        pub goes : every_from (readable d v f) 1 (total s 16) ≡ true → Ok (first_at s (chapter_place s chapter), count_at s (chapter_place s chapter)) ≡ plan_in d v f s chapter
        unfolding allowed plan_in
        goes h = rw (g, lt-ltb (total s 16) 65536 few, lt-ltb (chapter_place s chapter) 16 there, h)

-- what is known where 50 is not answered
pub record Allowed (d : Drive) (v f s : List ℕ) (chapter : ℕ) : Type 0 where
  pub good : good_contents s ≡ true
  pub few : total s 16 < 65536
  pub there : chapter_place s chapter < 16
  pub all_read : every_from (readable d v f) 1 (total s 16) ≡ true

pub is_allowed : (d : Drive) (v f s : List ℕ) (chapter : ℕ) → allowed d v f s chapter ≡ true → Allowed d v f s chapter
unfolding allowed
is_allowed d v f s chapter e =
    let a = and_parts (good_contents s && ltb (total s 16) 65536 && ltb (chapter_place s chapter) 16) (every_from (readable d v f) 1 (total s 16)) e in
    let b = and_parts (good_contents s && ltb (total s 16) 65536) (ltb (chapter_place s chapter) 16) a.0 in
    let c = and_parts (good_contents s) (ltb (total s 16) 65536) b.0 in
    record { good = c.0; few = ltb-true (total s 16) 65536 c.1; there = ltb-true (chapter_place s chapter) 16 b.1; all_read = a.1 }

-- ---- the file's own refusals, then what record 0 says
module _ (d : Drive) (v f : List ℕ) (chapter : ℕ) where
  pub refused_file : {why : Refusal} → why ≡ first_met (change_tests d v f) → is_none why ≡ false → Err (Call why) ≡ plan d v f chapter
  unfolding plan
  refused_file e n = rw (← e, n)

  module _ (p : is_none (first_met (change_tests d v f)) ≡ true) where
    pub refused_record : {why : Refusal} → why ≡ unread d v f 0 → is_none why ≡ false → Err (Call why) ≡ plan d v f chapter
    unfolding plan
    refused_record e n = rw (p, ← e, n)

    pub told : {why : Refusal} {s : List ℕ} {r : Result (ℕ × ℕ) Why} → why ≡ unread d v f 0 → is_none why ≡ true → s ≡ record_shown d v f 0 → r ≡ plan_in d v f s chapter
        → r ≡ plan d v f chapter
    unfolding plan
    told e n y h = rw (p, ← e, n, ← y) h

-- ---- what is known of a plan that goes
pub record Goes (d : Drive) (v f : List ℕ) (chapter first k : ℕ) : Type 0 where
  pub file : is_none (first_met (change_tests d v f)) ≡ true
  pub has_contents : readable d v f 0 ≡ true
  pub within : Allowed d v f (record_shown d v f 0) chapter
  pub first_is : first ≡ first_at (record_shown d v f 0) (chapter_place (record_shown d v f 0) chapter)
  pub count_is : k ≡ count_at (record_shown d v f 0) (chapter_place (record_shown d v f 0) chapter)

pub plan_goes : (d : Drive) (v f : List ℕ) (chapter first k : ℕ) → plan d v f chapter ≡ Ok (first, k) → Goes d v f chapter first k
unfolding plan plan_in
plan_goes d v f chapter first k = go (is_none (first_met (change_tests d v f))) refl (readable d v f 0) refl (allowed d v f (record_shown d v f 0) chapter) refl
  where
    no : (why : Why) → plan d v f chapter ≡ Err why → plan d v f chapter ≡ Ok (first, k) → ⊥
    no why e h = let z : ◌≡◌ {A = ℕ} 0 1 = cc in omega arith

    go : (a : Bool) → is_none (first_met (change_tests d v f)) ≡ a → (b : Bool) → readable d v f 0 ≡ b → (c : Bool) → allowed d v f (record_shown d v f 0) chapter ≡ c
        → plan d v f chapter ≡ Ok (first, k) → Goes d v f chapter first k
    go false x b y c z h = absurd (no (Call (first_met (change_tests d v f))) (rw x) h)
    go true x false y c z h = absurd (no (Call (unread d v f 0)) (rw (x, y)) h)
    go true x true y false z h = absurd (no Contents (rw (x, y, z)) h)
    go true x true y true z h =
        let s = record_shown d v f 0 in
        let e : plan d v f chapter ≡ Ok (first_at s (chapter_place s chapter), count_at s (chapter_place s chapter)) = rw (x, y, z) in
        let q : ◌≡◌ {A = ℕ × ℕ} (first, k) (first_at s (chapter_place s chapter), count_at s (chapter_place s chapter)) = cc in
        record {
          file = x;
          has_contents = y;
          within = is_allowed d v f s chapter z;
          first_is = ap (λ (x : ℕ × ℕ). x.0) q;
          count_is = ap (λ (x : ℕ × ℕ). x.1) q;
        }

-- its body is one of the records listed
pub record Body (d : Drive) (v f : List ℕ) (first k : ℕ) : Type 0 where
  pub from_one : 1 ≤ first
  pub to_last : first + k ≤ 65536
  pub few : k < 65536
  pub can : (n : ℕ) → first ≤ n → n < first + k → readable d v f n ≡ true

pub goes_body : {d : Drive} {v f : List ℕ} {chapter first k : ℕ} → Goes d v f chapter first k → Body d v f first k
goes_body {d} {v} {f} {chapter} {first} {k} g =
    let s = record_shown d v f 0 in
    let b = body_in s chapter g.within.good g.within.there in
    let t = total_in s (chapter_place s chapter) g.within.there in
    let x = g.first_is in
    let y = g.count_is in
    let few = g.within.few in
    let start = b.0 in
    let end = b.1 in
    record {
      from_one = omega (arith, x, start);
      to_last = omega (arith, x, y, end, few);
      few = omega (arith, y, t, few);
      can = λ n i j. every_true (readable d v f) 1 (total s 16) g.within.all_read n (omega (arith, i, x, start)) (omega (arith, j, x, y, end));
    }

-- all tests have passed, and the records listed are marked as they match: the plan goes, and so are those of the body marked
pub planned_go : (d : Drive) (v f s : List ℕ) (chapter old : ℕ) (marks : List Bool) {listed place first k : ℕ} {t : Bool}
    → length f ≡ 36 → good_contents s ≡ true → listed ≡ total s 16 → listed < 65536 → place ≡ chapter_place s chapter → place < 16
    → Sifted d v f old listed marks t → t ≡ true
    → first ≡ first_at s place → k ≡ count_at s place
    → (Ok (first, k) ≡ plan_in d v f s chapter) × Marked d v f old marks first k
planned_go d v f s chapter old marks {listed} {place} {first} {k} lent g l few p there m q x y =
    let fits : total s 16 < 65536 = rw (← l) few in
    let low : chapter_place s chapter < 16 = rw (← p) there in
    let all : every_from (readable d v f) 1 (total s 16) ≡ true = rw (← l) (sym m.all_read ∙ q) in
    let b = body_in s chapter g low in
    let z : first ≡ first_at s (chapter_place s chapter) = x ∙ ap (λ (i : ℕ). first_at s i) p in
    let w : k ≡ count_at s (chapter_place s chapter) = y ∙ ap (λ (i : ℕ). count_at s i) p in
    let start = b.0 in
    let end = b.1 in (
      rw (z, w) (goes d v f s chapter g fits low all),
      record {
        lent = lent;
        fits = omega (arith, z, w, end, fits);
        right = λ n i j. m.right q n (omega (arith, i, z, start)) (omega (arith, j, z, w, l, end));
      },
    )

-- ---- the plan carried out
module _ (most : ℕ) (d : Drive) (v f : List ℕ) (chapter old new : ℕ) where
  pub cut_refused : {why : Why} → Err why ≡ plan d v f chapter → desk_cut (Err why) v most ≡ cut_replacement most d v f chapter old new
  unfolding cut_replacement replacement replacement_stores carried_out plan_stores
  cut_refused e = let z : most - 0 ≡ most = omega arith in rw (← e, cut_none d.geometry v most, z)

  pub cut_done : {marks : List Bool} {v' : List ℕ} {first k c rest : ℕ} → Ok (first, k) ≡ plan d v f chapter → Marked d v f old marks first k
      → c ≡ count_from (marked marks) first k → Stored d.geometry v most (all_stores (marked marks) d f new v first k) v' rest
      → desk_cut (Ok c) v' rest ≡ cut_replacement most d v f chapter old new
  unfolding cut_replacement replacement replacement_stores carried_out plan_stores
  cut_done {marks} {v'} {first} {k} e m x s =
      rw (← e, x, s.volume_is, s.left_is, count_ext (marked marks) (bears d v f old) first k m.right, stores_same (marked marks) (bears d v f old) d f new k v first m.right)

-- the same as code learns it, of a state in two parts
module _ (most : ℕ) (d : Drive) (v f : List ℕ) (chapter old new : ℕ) {w : Front} (front : w ≡ front_of d) {r : Result (ℕ × ℕ) Why} (marks : List Bool)
    (planned : (r ≡ plan (joined w d.held) v f chapter) × Planned (joined w d.held) v f old marks r) where
  whole : (r ≡ plan d v f chapter) × Planned d v f old marks r
  whole = subst (λ (x : Front). (r ≡ plan (joined x d.held) v f chapter) × Planned (joined x d.held) v f old marks r) front planned

  pub code_refused : {why : Why} → r ≡ Err why → desk_cut (Err why) v most ≡ cut_replacement most d v f chapter old new
  code_refused e = cut_refused most d v f chapter old new (sym e ∙ whole.0)

  pub code_marked : {first k : ℕ} → r ≡ Ok (first, k) → Marked d v f old marks first k
  code_marked e = subst (λ (q : Result (ℕ × ℕ) Why). Planned d v f old marks q) e whole.1

  pub code_done : {first k c rest : ℕ} {v' : List ℕ} → r ≡ Ok (first, k) → c ≡ count_from (marked marks) first k
      → Stored w.geometry v most (all_stores (marked marks) (joined w d.held) f new v first k) v' rest
      → desk_cut (Ok c) v' rest ≡ cut_replacement most d v f chapter old new
  code_done {first} {k} {c} {rest} {v'} e x s =
      cut_done most d v f chapter old new (sym e ∙ whole.0) (code_marked e) x
      (subst (λ (y : Front). Stored y.geometry v most (all_stores (marked marks) (joined y d.held) f new v first k) v' rest) front s)

-- with enough it is the call
plan_laid : (d : Drive) (v f : List ℕ) (old new : ℕ) (p : Result (ℕ × ℕ) Why) → laid d.geometry v (plan_stores d v f old new p) ≡ (carried_out d v f old new p).volume
unfolding plan_stores carried_out laid
plan_laid d v f old new (Err why) = refl
plan_laid d v f old new (Ok (first, k)) = all_laid (bears d v f old) d f new k v first

pub stores_laid : (d : Drive) (v f : List ℕ) (chapter old new : ℕ)
    → laid d.geometry v (replacement_stores d v f chapter old new) ≡ (replacement d v f chapter old new).volume
unfolding replacement_stores replacement
stores_laid d v f chapter old new = plan_laid d v f old new (plan d v f chapter)

-- by a plan, whichever it is
pub by_plan_lem : (P : Result (ℕ × ℕ) Why → Type 0) (d : Drive) (v f : List ℕ) (chapter : ℕ) → ((why : Why) → P (Err why)) → ((first k : ℕ) → Goes d v f chapter first k → P (Ok (first, k)))
    → P (plan d v f chapter)
by_plan_lem P d v f chapter refuses goes_on = go (plan d v f chapter) refl
  where
    go : (p : Result (ℕ × ℕ) Why) → plan d v f chapter ≡ p → P p
    go (Err why) e = refuses why
    go (Ok (first, k)) e = goes_on first k (plan_goes d v f chapter first k e)

module _ (d : Drive) (v f : List ℕ) (chapter old new : ℕ) where
  stores_few : length (replacement_stores d v f chapter old new) ≤ 34603008
  unfolding replacement_stores plan_stores
  stores_few =
      by_plan_lem (λ p. length (plan_stores d v f old new p) ≤ 34603008) d v f chapter (λ why. omega arith)
      (λ first k g. let l = (goes_body g).few in omega (arith, all_most (bears d v f old) d f new k v first, l))

  -- the answer's value has 16 bits
  pub value_small : value_of (replacement d v f chapter old new).answer < 65536
  unfolding replacement carried_out
  value_small =
      by_plan_lem (λ p. value_of (carried_out d v f old new p).answer < 65536) d v f chapter (λ why. omega arith)
      (λ first k g. let l = (goes_body g).few in omega (arith, count_most (bears d v f old) first k, l))

  -- the state is handed back as given
  pub drive_stays : (replacement d v f chapter old new).drive ≡ d
  unfolding replacement carried_out
  drive_stays = by_plan_lem (λ p. (carried_out d v f old new p).drive ≡ d) d v f chapter (λ why. refl) (λ first k g. refl)

  pub cut_whole : (most : ℕ) → 34603008 ≤ most → cut d.geometry v most (replacement_stores d v f chapter old new) ≡ (replacement d v f chapter old new).volume
  cut_whole most h =
      cut_enough d.geometry v (replacement_stores d v f chapter old new) most (omega (arith, stores_few, h)) ∙ stores_laid d v f chapter old new

  -- the same as code learns it
  pub code_whole : {r : Result ℕ Why} {v' : List ℕ} {rest : ℕ} (most : ℕ) → 34603008 ≤ most → desk_cut r v' rest ≡ cut_replacement most d v f chapter old new
      → left (record { answer = r; drive = d }) v' ≡ replacement d v f chapter old new
  unfolding cut_replacement
  code_whole most h e =
      let a = ap (λ (x : DeskCut). x.answer) e in
      let w = ap (λ (x : DeskCut). x.volume) e ∙ cut_whole most h in
      let s = sym drive_stays in
      λ i. left (record { answer = a i; drive = s i }) (w i)
