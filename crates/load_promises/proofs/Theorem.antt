-- The promises of load, each under its name.
use mathlib.Core.Path.{◌≡◌, refl, ap, ◌∙◌}
use mathlib.Core.Bool.{Bool, true, false, not, cond}
use mathlib.Core.List.{List, [], ◌∷◌, ◌++◌}
use Prim.Native.Nat.{ℕ, ◌+◌, ◌*◌, ◌≤◌, ◌<◌}
use native.Mathlib.Omega.{arith}
use borrow.Author.Tests.{not-false, ltb-false}
use lib.Dec.{ltb}
use lib.ListN.{length, drop, get_or, length-take, length-append}
use lib.Seq.{drop_at, get_or-append-add}
use Rattle.std.specs.Prelude.{Ok, Err}
use Rattle.lists.specs.Bytes.{byte}
use Rattle.lists.proofs.PartLaws.{length_put}
use Rattle.disk_geometry.specs.Geometry.{record_bytes}
use Rattle.call_answers.specs.Refusal.{is_none}
use Rattle.filecalls.specs.declared.Drive.{Drive}
use Rattle.memory_spans.specs.declared.Span.{Span}
use Rattle.memory_spans.specs.Span.{places, paragraphs, paragraph_bytes, none, end}
use Rattle.memory_regions.specs.Places.{padded}
use Rattle.memory_regions.proofs.PlaceLaws.{padded_used, padded_at}
use Rattle.memory_calls.specs.declared.Table.{Table}
use Rattle.memory_calls.specs.Table.{pieces_of, regions_of, with_regions, within_rules}
use Rattle.memory_calls.proofs.CallLaws.{within_facts, within_test, within_ready}
use Rattle.memory_promises.specs.Promises as calls
use Rattle.memory_promises.proofs.Theorem.{stays_within_rules, call_keeps}
use Rattle.load_header.specs.Header.{groups, need, page_place, good_header, image_start}
use Rattle.load_records.specs.Records.{record_of, image_records, image, read_why}
use Rattle.load_records.proofs.ImageLaws.{image_length}
use Rattle.load_grants.proofs.GrantsLaws.{Fits, grants_fit, grants_keep, grants_few}
use Rattle.loading.specs.declared.LoadRefusal.{LoadRefusal}
use Rattle.loading.specs.Page.{page_bytes, base_page, page_start}
use Rattle.loading.specs.Laid.{laid, with_page}
use Rattle.loading.specs.Load.{After, grants_of, image_short, loaded, placed, load}
use Rattle.loading.specs.Load as load
use Rattle.loading.proofs.PageLaws.{page_length}
use Rattle.loading.proofs.LoadLaws.{good_facts, page_below}
use Rattle.load_promises.specs.Promises.{RefusedLoadAltersNothing, new_regions, LoadGrantsAll, OutsideOf, LoadAltersNoOther, LoadKeepsLength, Request, call, loading, State, next, after, RunsStayWithinRules}
use Rattle.load_promises.proofs.Outside.{laid_length, laid_outside, page_outside}

-- ---- the outcomes of a load
pub record Went (h : List ℕ) (records : ℕ) (t : Table) (memory : List ℕ) : Type 0 where
  pub rules : within_rules (length memory) t ≡ true
  pub good : good_header h ≡ true
  pub whole : image_short h records ≡ false
  pub place : ltb places (t.granted + groups h) ≡ false
  pub all : ltb (length (grants_of h t)) (groups h) ≡ false

pub data Outcome (h : List ℕ) (records : ℕ) (image : List ℕ) (t : Table) (memory : List ℕ) : After → Type 0 where
  denied : (why : LoadRefusal) → Outcome h records image t memory (load.after (record { answer = Err why; table = t }) memory)
  went : Went h records t memory → Outcome h records image t memory (loaded h (grants_of h t) image t memory)

split : (P : After → Type 0) (test : Bool) (x y : After) → (test ≡ true → P x) → (test ≡ false → P y) → P (cond test x y)
split P test x y a b = go test refl
  where
    go : (t : Bool) → test ≡ t → P (cond t x y)
    go true e = a e
    go false e = b e

placed_outcome_lem : (h : List ℕ) (records : ℕ) (image : List ℕ) (t : Table) (memory : List ℕ) → Outcome h records image t memory (placed h records image t memory)
unfolding placed
placed_outcome_lem h records image t memory =
    split (Outcome h records image t memory) (not (within_rules (length memory) t)) _ _ (λ e. denied _)
    (λ a. split (Outcome h records image t memory) (not (good_header h)) _ _ (λ e. denied _)
    (λ b. split (Outcome h records image t memory) (image_short h records) _ _ (λ e. denied _)
    (λ c. split (Outcome h records image t memory) (ltb places (t.granted + groups h)) _ _ (λ e. denied _)
    (λ p. split (Outcome h records image t memory) (ltb (length (grants_of h t)) (groups h)) _ _ (λ e. denied _)
    (λ r. went (record { rules = not-false (within_rules (length memory) t) a; good = not-false (good_header h) b; whole = c; place = p; all = r }))))))

pub outcome : (d : Drive) (v f : List ℕ) (t : Table) (memory : List ℕ)
    → Outcome (record_of d v f 0) (image_records d v f) (image d v f) t memory (load d v f t memory)
unfolding load
outcome d v f t memory =
    split (Outcome (record_of d v f 0) (image_records d v f) (image d v f) t memory) (not (is_none (read_why d v f))) _ _ (λ e. denied _)
    (λ e. placed_outcome_lem (record_of d v f 0) (image_records d v f) (image d v f) t memory)

-- ---- refused, it leaves everything
pub refused_load_alters_nothing : RefusedLoadAltersNothing
unfolding loaded
refused_load_alters_nothing d v f t memory why e = go (outcome d v f t memory) e
  where
    go : {r : After} → Outcome (record_of d v f 0) (image_records d v f) (image d v f) t memory r → r.reply.answer ≡ Err why
        → (r.reply.table ≡ t) × (r.memory ≡ memory)
    go (denied w) q = (refl, refl)
    go (went w) q = let z : ◌≡◌ {A = ℕ} 0 1 = cc in absurd (omega arith)

-- ---- where it goes on
module _ (h : List ℕ) (records : ℕ) (image : List ℕ) (t : Table) (memory : List ℕ) (size : length image ≡ record_bytes * records) (w : Went h records t memory) where
  n : ℕ
  n = groups h

  given : List Span
  given = grants_of h t

  all_of : length (grants_of h t) ≡ groups h
  all_of = omega (arith, ltb-false (length (grants_of h t)) (groups h) w.all, grants_few h (pieces_of t) (regions_of t) 0 (groups h))

  fit : (i : ℕ) → i < groups h → Fits (length memory) h i (get_or (grants_of h t) i none)
  fit i l =
      let z : 0 + i ≡ i = omega arith in
      rw z at (grants_fit (length memory) h (pieces_of t) (regions_of t) 0 (groups h) (within_facts (length memory) t w.rules).law all_of i l)

  enough : paragraph_bytes * image_start h (groups h) ≤ length image
  enough = let e = ltb-false (record_bytes * records) (paragraph_bytes * image_start h (groups h)) w.whole in omega (arith, size)

  pub few : length (regions_of t ++ grants_of h t) ≤ places
  few =
      let e = ltb-false places (t.granted + groups h) w.place in
      let k : length (regions_of t) ≤ t.granted = rw length-take (omega arith) in
      rw length-append (omega (arith, all_of))

  went_keeps : within_rules (length memory) (with_regions t (regions_of t ++ grants_of h t)) ≡ true
  went_keeps =
      let x = within_facts (length memory) t w.rules in
      within_test (length memory) (with_regions t (regions_of t ++ grants_of h t))
      (record {
        few_pieces = x.few_pieces;
        few_regions = few;
        law = rw (padded_used places (regions_of t ++ grants_of h t) few) (grants_keep (length memory) h (pieces_of t) (regions_of t) 0 (groups h) x.law);
      })

  laid_size : length (laid h (grants_of h t) image memory) ≡ length memory
  unfolding laid
  laid_size = laid_length h (grants_of h t) image (length memory) (groups h) 0 enough fit 0 (groups h) (omega arith) memory refl

  page_span : Fits (length memory) h (page_place h) (get_or (grants_of h t) (page_place h) none)
  page_span = fit (page_place h) (page_below h w.good)

  page_room : page_bytes ≤ paragraph_bytes * (get_or (grants_of h t) (page_place h) none).length
  page_room = let g = good_facts h w.good in omega (arith, g.page, page_span.enough)

  went_size : length (with_page h (grants_of h t) (laid h (grants_of h t) image memory)) ≡ length memory
  unfolding with_page page_start
  went_size =
      length_put (laid h (grants_of h t) image memory) (paragraph_bytes * (get_or (grants_of h t) (page_place h) none).start) page_bytes
      (omega (arith, laid_size, page_room, page_span.inside)) (base_page h (grants_of h t)) (page_length h (grants_of h t))
      ∙ laid_size

  went_outside : (x : ℕ) → ((i : ℕ) → i < groups h → OutsideOf (get_or (grants_of h t) i none) x)
      → byte (with_page h (grants_of h t) (laid h (grants_of h t) image memory)) x ≡ byte memory x
  unfolding with_page page_start laid
  went_outside x o =
      page_outside (laid h (grants_of h t) image memory) (base_page h (grants_of h t)) (get_or (grants_of h t) (page_place h) none) (length memory) page_bytes x
      (page_length h (grants_of h t)) page_room page_span.inside laid_size (o (page_place h) (page_below h w.good))
      ∙ laid_outside h (grants_of h t) image (length memory) (groups h) x enough fit o 0 (groups h) (omega arith) memory refl

  -- the base page begins at a paragraph that 16 bits can name
  went_named : page_start h (grants_of h t) < paragraphs
  unfolding page_start
  went_named =
      let l : List Span = regions_of t ++ grants_of h t in
      let i : ℕ = length (regions_of t) + page_place h in
      let b : i < length l = rw length-append (omega (arith, all_of, page_below h w.good)) in
      let e : end (get_or (padded places l) i none) ≤ paragraphs = (within_ready (length memory) (with_regions t l) went_keeps).named i b in
      let a : get_or (padded places l) i none ≡ get_or (grants_of h t) (page_place h) none =
      padded_at places l i (omega (arith, b, few)) ∙ get_or-append-add (regions_of t) (grants_of h t) (page_place h) none in
      let u : end (get_or (grants_of h t) (page_place h) none) ≤ paragraphs = rw a at e in
      omega (arith, u, page_room)

  went_new : new_regions t (with_regions t (regions_of t ++ grants_of h t)) ≡ grants_of h t
  went_new =
      ap (drop (length (regions_of t))) (padded_used places (regions_of t ++ grants_of h t) few)
      ∙ drop_at (regions_of t) (grants_of h t) (length (regions_of t)) refl

pub load_grants_all : LoadGrantsAll
unfolding loaded
load_grants_all d v f t memory paragraph e = go (outcome d v f t memory) e
  where
    go : {r : After} → Outcome (record_of d v f 0) (image_records d v f) (image d v f) t memory r → r.reply.answer ≡ Ok paragraph
        → (length (new_regions t r.reply.table) ≡ groups (record_of d v f 0))
        × ((i : ℕ) → i < groups (record_of d v f 0) → need (record_of d v f 0) i ≤ (get_or (new_regions t r.reply.table) i none).length)
    go (denied w) q = let z : ◌≡◌ {A = ℕ} 0 1 = cc in absurd (omega arith)
    go (went w) q =
        let e = went_new (record_of d v f 0) (image_records d v f) (image d v f) t memory (image_length d v f) w in (
          ap length e ∙ all_of (record_of d v f 0) (image_records d v f) (image d v f) t memory (image_length d v f) w,
          λ i l. rw e (fit (record_of d v f 0) (image_records d v f) (image d v f) t memory (image_length d v f) w i l).enough,
        )

pub load_keeps : (d : Drive) (v f : List ℕ) (t : Table) (memory : List ℕ) → within_rules (length memory) t ≡ true
    → within_rules (length memory) (load d v f t memory).reply.table ≡ true
unfolding loaded
load_keeps d v f t memory e = go (outcome d v f t memory)
  where
    go : {r : After} → Outcome (record_of d v f 0) (image_records d v f) (image d v f) t memory r → within_rules (length memory) r.reply.table ≡ true
    go (denied w) = e
    go (went w) = went_keeps (record_of d v f 0) (image_records d v f) (image d v f) t memory (image_length d v f) w

-- what a load that is done tells: the table was within the rules and is so, and the value fits 16 bits
pub record Lasting (d : Drive) (v f : List ℕ) (t : Table) (memory : List ℕ) (p : ℕ) : Type 0 where
  pub before : within_rules (length memory) t ≡ true
  pub after : within_rules (length memory) (load d v f t memory).reply.table ≡ true
  pub named : p < paragraphs

pub loaded_lasting : (d : Drive) (v f : List ℕ) (t : Table) (memory : List ℕ) (p : ℕ) → (load d v f t memory).reply.answer ≡ Ok p
    → Lasting d v f t memory p
unfolding loaded
loaded_lasting d v f t memory p e = let g = go (outcome d v f t memory) e in record { before = g.0; after = load_keeps d v f t memory g.0; named = g.1 }
  where
    go : {r : After} → Outcome (record_of d v f 0) (image_records d v f) (image d v f) t memory r → r.reply.answer ≡ Ok p
        → (within_rules (length memory) t ≡ true) × (p < paragraphs)
    go (denied w) q = let z : ◌≡◌ {A = ℕ} 0 1 = cc in absurd (omega arith)
    go (went w) q =
        let x : page_start (record_of d v f 0) (grants_of (record_of d v f 0) t) ≡ p = cc in
        (w.rules, rw (← x) (went_named (record_of d v f 0) (image_records d v f) (image d v f) t memory (image_length d v f) w))

pub load_keeps_length : LoadKeepsLength
unfolding loaded
load_keeps_length d v f t memory = go (outcome d v f t memory)
  where
    go : {r : After} → Outcome (record_of d v f 0) (image_records d v f) (image d v f) t memory r → length r.memory ≡ length memory
    go (denied w) = refl
    go (went w) = went_size (record_of d v f 0) (image_records d v f) (image d v f) t memory (image_length d v f) w

pub load_alters_no_other : LoadAltersNoOther
unfolding loaded
load_alters_no_other d v f t memory x o = go (outcome d v f t memory) o
  where
    go : {r : After} → Outcome (record_of d v f 0) (image_records d v f) (image d v f) t memory r
        → ((i : ℕ) → i < length (new_regions t r.reply.table) → OutsideOf (get_or (new_regions t r.reply.table) i none) x)
        → byte r.memory x ≡ byte memory x
    go (denied w) q = refl
    go (went w) q =
        let e = went_new (record_of d v f 0) (image_records d v f) (image d v f) t memory (image_length d v f) w in
        let a = all_of (record_of d v f 0) (image_records d v f) (image d v f) t memory (image_length d v f) w in
        let o' : (i : ℕ) → i < length (grants_of (record_of d v f 0) t) → OutsideOf (get_or (grants_of (record_of d v f 0) t) i none) x = rw e at q in
        went_outside (record_of d v f 0) (image_records d v f) (image d v f) t memory (image_length d v f) w x (λ i l. o' i (rw (← a) at l))

-- ---- any run
next_keeps : (s : State) → within_rules (length s.memory) s.table ≡ true → (r : Request)
    → (length (next s r).memory ≡ length s.memory) × (within_rules (length s.memory) (next s r).table ≡ true)
unfolding next
next_keeps s e (call f b) = (refl, call_keeps f (length s.memory) s.table b e)
next_keeps s e (loading d v f) = (load_keeps_length d v f s.table s.memory, load_keeps d v f s.table s.memory e)

pub runs_stay_within_rules : RunsStayWithinRules
unfolding after calls.after
runs_stay_within_rules s e [] = (stays_within_rules (length s.memory) s.table e [], refl)
runs_stay_within_rules s e (r ∷ rs) =
    let k = next_keeps s e r in
    let i = runs_stay_within_rules (next s r) (rw k.0 k.1) rs in
    (rw k.0 at i.0, i.1 ∙ k.0)
