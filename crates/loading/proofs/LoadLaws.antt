-- The call, by what its parts answer.
use mathlib.Core.Path.{◌≡◌, refl, ap, ◌∙◌}
use mathlib.Core.Bool.{Bool, true, false, cond, ◌&&◌}
use mathlib.Core.List.{List, ◌++◌}
use Prim.Native.Nat.{ℕ, ◌+◌, ◌-◌, ◌*◌, ◌≤◌, ◌<◌}
use native.Mathlib.Omega.{arith}
use borrow.Author.Tests.{lt-ltb, le-ltb, ltb-true, leb-true}
use lib.Dec.{leb, ltb}
use lib.ListN.{length, take, drop, get_or, length-take, length-append}
use Rattle.std.specs.Prelude.{Ok, Err}
use Rattle.lists.specs.Bounded.{every, fold}
use Rattle.lists.specs.Bytes.{put}
use Rattle.lists.proofs.BoolLaws.{and_parts}
use Rattle.disk_geometry.specs.Geometry.{record_bytes}
use Rattle.call_answers.specs.declared.Refusal.{Refusal}
use Rattle.call_answers.specs.Refusal.{is_none}
use Rattle.filecalls.specs.declared.Front.{Front}
use Rattle.filecalls.specs.declared.Drive.{Drive}
use Rattle.filecalls.specs.CodeFront.{joined}
use Rattle.memory_spans.specs.declared.Span.{Span}
use Rattle.memory_spans.specs.Span.{places, paragraph_bytes, none}
use Rattle.memory_calls.specs.declared.Table.{Table}
use Rattle.memory_regions.specs.declared.Regions.{Regions}
use Rattle.memory_regions.specs.Places.{places_of}
use Rattle.memory_calls.specs.Table.{pieces_of, regions_of, with_places, within_rules}
use Rattle.memory_calls.proofs.CallLaws.{within_facts}
use Rattle.load_header.specs.Header.{CODE, DATA, page_paragraphs, groups, good_group, has, place_of, need, page_place, good_header, image_start}
use Rattle.load_records.specs.Records.{record_of, image_records, image, read_why}
use Rattle.load_records.specs.CodeReading.{bare}
use Rattle.load_records.proofs.FrontLaws.{reads_as_bare}
use Rattle.load_grants.specs.Grants.{grants}
use Rattle.load_grants.proofs.GrantsLaws.{Fits, grants_fit, grants_few}
use Rattle.loading.specs.declared.LoadRefusal.TheVariants.{File, Rules, Header, Image, NoPlace, NoRoom}
use Rattle.loading.specs.declared.LoadRefusal.{LoadRefusal}
use Rattle.loading.specs.declared.LoadReply.{LoadReply}
use Rattle.loading.specs.Page.{page_bytes, base_page, page_start}
use Rattle.loading.specs.Laid.{group_laid, laid, with_page}
use Rattle.loading.specs.CodeLoad.{Held, Tested}
use Rattle.loading.proofs.LaidLaws.{in_use, behind_them, held_in}
use Rattle.loading.specs.Load.{After, after, refusing, grants_of, image_short, loaded, placed, load}

abbrev no : LoadRefusal → Table → LoadReply
no why t = record { answer = Err why; table = t }

-- ---- the file's own refusals, and then what stands behind them
module _ (d : Drive) (v f : List ℕ) (t : Table) (memory : List ℕ) {why : Refusal} (e : why ≡ read_why d v f) where
  pub not_read : {r : LoadReply} → is_none why ≡ false → r ≡ no (File why) t → after r memory ≡ load d v f t memory
  unfolding load
  not_read n z = let u : is_none (read_why d v f) ≡ false = rw (← e) n in rw (z, u, e)

  pub was_read : {x : After} {h : List ℕ} → is_none why ≡ true → h ≡ record_of d v f 0 → x ≡ placed h (image_records d v f) (image d v f) t memory
      → x ≡ load d v f t memory
  unfolding load
  was_read n y z = let u : is_none (read_why d v f) ≡ true = rw (← e) n in rw (u, ← y) z

-- a load looks at no held block
pub load_any : (w : Front) (held v f : List ℕ) (t : Table) (memory : List ℕ) → load (bare w) v f t memory ≡ load (joined w held) v f t memory
unfolding load
load_any w held v f t memory = let r = reads_as_bare w held v f in rw (r.refusal, r.header, r.size, r.image)

-- ---- 65, 60, 61, 63 in this order
module _ (h : List ℕ) (records : ℕ) (image : List ℕ) (t : Table) (memory : List ℕ) where
  pub no_rules : {r : LoadReply} → within_rules (length memory) t ≡ false → r ≡ no Rules t → after r memory ≡ placed h records image t memory
  unfolding placed
  no_rules e z = rw (z, e)

  module _ (a : within_rules (length memory) t ≡ true) where
    pub no_header : {r : LoadReply} → good_header h ≡ false → r ≡ no Header t → after r memory ≡ placed h records image t memory
    unfolding placed
    no_header e z = rw (z, a, e)

    module _ (b : good_header h ≡ true) {n : ℕ} (g : n ≡ groups h) where
      pub no_image : {r : LoadReply} → record_bytes * records < paragraph_bytes * image_start h n → r ≡ no Image t → after r memory ≡ placed h records image t memory
      unfolding placed
      no_image e z =
          let u : image_short h records ≡ true = rw (← g) (lt-ltb (record_bytes * records) (paragraph_bytes * image_start h n) e) in
          rw (z, a, b, u)

      module _ (whole : paragraph_bytes * image_start h n ≤ record_bytes * records) where
        long : image_short h records ≡ false
        long = rw (← g) (le-ltb (record_bytes * records) (paragraph_bytes * image_start h n) whole)

        pub no_place : {r : LoadReply} → places < t.granted + n → r ≡ no NoPlace t → after r memory ≡ placed h records image t memory
        unfolding placed
        no_place e z =
            let u : ltb places (t.granted + groups h) ≡ true = rw (← g) (lt-ltb places (t.granted + n) e) in
            rw (z, a, b, long, u)

        pub goes_on : {x : After} → t.granted + n ≤ places
            → x ≡ refusing (ltb (length (grants_of h t)) (groups h)) NoRoom t memory (loaded h (grants_of h t) image t memory) → x ≡ placed h records image t memory
        unfolding placed
        goes_on e z =
            let u : ltb places (t.granted + groups h) ≡ false = rw (← g) (le-ltb places (t.granted + n) e) in
            rw (a, b, long, u) z

-- ---- 62, and what is left where all groups have room; n is their number
abbrev grants_to : List ℕ → Table → ℕ → List Span
grants_to h t n = grants h (pieces_of t) (regions_of t) 0 n

module _ (h image : List ℕ) (t : Table) (memory : List ℕ) {n : ℕ} (g : n ≡ groups h) where
  pub no_room : {r : LoadReply} → length (grants_to h t n) < n → r ≡ no NoRoom t
      → after r memory ≡ refusing (ltb (length (grants_of h t)) (groups h)) NoRoom t memory (loaded h (grants_of h t) image t memory)
  no_room e z =
      let u : ltb (length (grants_of h t)) (groups h) ≡ true = lt-ltb (length (grants_of h t)) (groups h) (rw g at e) in
      rw (z, u)

  pub all_room : {x : After} → length (grants_to h t n) ≡ n → x ≡ loaded h (grants_of h t) image t memory
      → x ≡ refusing (ltb (length (grants_of h t)) (groups h)) NoRoom t memory (loaded h (grants_of h t) image t memory)
  all_room e z =
      let k : length (grants_of h t) ≡ groups h = rw g at e in
      let u : ltb (length (grants_of h t)) (groups h) ≡ false = le-ltb (length (grants_of h t)) (groups h) (omega (arith, k)) in
      rw u z

-- ---- a good header has a group, and its base page has room
pub record Good (h : List ℕ) : Type 0 where
  pub code : place_of h CODE < groups h
  pub page : page_paragraphs ≤ need h (page_place h)

pub good_facts : (h : List ℕ) → good_header h ≡ true → Good h
unfolding good_header
good_facts h e =
    let a = and_parts (every (groups h) (good_group h) && has h CODE) (leb page_paragraphs (need h (page_place h))) e in
    let b = and_parts (every (groups h) (good_group h)) (has h CODE) a.0 in
    record { code = ltb-true (place_of h CODE) (groups h) b.1; page = leb-true page_paragraphs (need h (page_place h)) a.1 }

pub some_group : (h : List ℕ) → good_header h ≡ true → 0 < groups h
some_group h e = let g = good_facts h e in omega (arith, g.code)

pub page_below : (h : List ℕ) → good_header h ≡ true → page_place h < groups h
unfolding page_place
page_below h e = go (has h DATA) refl
  where
    go : (t : Bool) → has h DATA ≡ t → cond t (place_of h DATA) (place_of h CODE) < groups h
    go true q = ltb-true (place_of h DATA) (groups h) q
    go false q = (good_facts h e).code

pub page_in : (bytes : ℕ) (h : List ℕ) (granted : List Span) → good_header h ≡ true
    → ((j : ℕ) → j < groups h → Fits bytes h (0 + j) (get_or granted j none)) → paragraph_bytes * page_start h granted + page_bytes ≤ bytes
unfolding page_start
page_in bytes h granted e f =
    let z : 0 + page_place h ≡ page_place h = omega arith in
    let g = rw z at (f (page_place h) (page_below h e)) in
    let p = (good_facts h e).page in
    omega (arith, g.enough, g.inside, p)

-- ---- where the groups are granted: what laying relies on, and what is left
few_before : (t : Table) → length (regions_of t) ≤ t.granted
few_before t = rw length-take (omega arith)

pub few_enough : {d : Drive} {v f h : List ℕ} {n : ℕ} {t : Table} {bytes : ℕ} → Tested d v f h n t bytes → {before : List Span} → before ≡ regions_of t → length before + n ≤ places
few_enough {t = t} w e = rw e (omega (arith, few_before t, w.left))

-- the table with the groups' regions, and these alone
pub record GrantedTo (h : List ℕ) (t : Table) (n : ℕ) (next : Regions) (used before : List Span) : Type 0 where
  pub table : next ≡ places_of (regions_of t ++ grants_to h t n)
  pub is : take (length used - length before) (drop (length before) used) ≡ grants_to h t n
  pub within : length before ≤ length used

pub granted_to : {d : Drive} {v f h : List ℕ} {n : ℕ} {t : Table} {bytes : ℕ} → Tested d v f h n t bytes → {next : Regions} {before pieces used : List Span}
    → before ≡ regions_of t → pieces ≡ pieces_of t → next ≡ places_of (before ++ grants h pieces before 0 n) → used ≡ take next.count next.list
    → GrantedTo h t n next used before
granted_to {h = h} {n = n} {t = t} w {next} {before} {pieces} {used} er ep en eu =
    let b : next ≡ places_of (regions_of t ++ grants_to h t n) = rw (er, ep) at en in
    let few : length (regions_of t ++ grants_to h t n) ≤ places = rw length-append (omega (arith, few_before t, w.left, grants_few h (pieces_of t) (regions_of t) 0 n)) in
    let z : used ≡ regions_of t ++ grants_to h t n = in_use (regions_of t) (grants_to h t n) b few eu in
    record { table = b; is = rw (z, er) (behind_them (regions_of t) (grants_to h t n)); within = rw (z, er, length-append) (omega arith) }

module _ {d : Drive} {v f h : List ℕ} {n : ℕ} {t : Table} {bytes : ℕ} (w : Tested d v f h n t bytes) {next : Regions} {used before : List Span} (g : GrantedTo h t n next used before) where
  abbrev granted : List Span
  granted = take (length used - length before) (drop (length before) used)

  pub too_few : length granted < n → length (grants_to h t n) < n
  too_few k = rw (← g.is) k

  pub all_given : n ≤ length granted → length granted ≡ n
  all_given k = omega (arith, ap length g.is, grants_few h (pieces_of t) (regions_of t) 0 n)

  module _ (all : length granted ≡ n) where
    pub given : length (grants_to h t n) ≡ n
    given = rw (← g.is) all

    fit : (j : ℕ) → j < n → Fits bytes h (0 + j) (get_or (grants_to h t n) j none)
    fit = grants_fit bytes h (pieces_of t) (regions_of t) 0 n (within_facts bytes t w.rules).law given

    pub held : Held h granted bytes (length granted)
    held = rw (all, g.is) (held_in bytes h (grants_to h t n) n fit)

    pub page_fits : {p : ℕ} → p ≡ page_start h granted → paragraph_bytes * p + page_bytes ≤ bytes
    page_fits {p} e =
        let z : p ≡ page_start h (grants_to h t n) = e ∙ ap (page_start h) g.is in
        rw z (page_in bytes h (grants_to h t n) w.header (λ j l. fit j (rw (← w.number) at l)))

    pub all_done : (image memory : List ℕ) {p : ℕ} {m1 m2 : List ℕ}
        → p ≡ page_start h granted
        → m1 ≡ fold (group_laid h granted image) memory 0 (length granted)
        → m2 ≡ put m1 (paragraph_bytes * p) page_bytes (base_page h granted)
        → after (record { answer = Ok p; table = with_places t next }) m2 ≡ loaded h (grants_of h t) image t memory
    unfolding loaded laid with_page
    all_done image memory {p} {m1} {m2} e x y =
        let p' : p ≡ page_start h (grants_to h t n) = e ∙ ap (page_start h) g.is in
        let x' : m1 ≡ fold (group_laid h (grants_to h t n) image) memory 0 n = rw (all, g.is) at x in
        let y' : m2 ≡ put m1 (paragraph_bytes * p) page_bytes (base_page h (grants_to h t n)) = y ∙ ap (λ (l : List Span). put m1 (paragraph_bytes * p) page_bytes (base_page h l)) g.is in
        rw (← w.number, y', x', g.table, p')
