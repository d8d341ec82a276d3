-- The header is within the rules: types 1 to 4, none twice, code among them, and 16 paragraphs for the base page.
use mathlib.Core.Path.{◌≡◌, refl, ap, ◌∙◌}
use mathlib.Core.Bool.{Bool, true, false, cond}
use mathlib.Core.List.{List, ◌∷◌, ◌++◌}
use Prim.Native.Nat.{ℕ, zero, suc, ◌+◌, ◌≤◌, ◌<◌, max}
use native.Mathlib.Omega.{arith}
use native.Mathlib.Decide.{dec_lt}
use borrow.Author.Tests.{ne_eqb, le-leb, lt-ltb, le-ltb}
use lib.Dec.{eqb}
use lib.ListN.{length, get_or}
use Rattle.lists.proofs.BoundedLaws.{low_is, low_no, any_none, every_intro}
use Rattle.load_header.specs.Header.{CODE, DATA, LAST_AUX, page_paragraphs, groups, type_at, need, good_group, place_of, page_place, good_header}
use Rattle.gencmd_groups.specs.declared.Groups.{Groups}
use Rattle.gencmd_groups.specs.Groups.{rounded, sizes_of}
use Rattle.gencmd_groups.specs.CodeMeasure.{SizeWithin}
use Rattle.gencmd_file.specs.File.{header}
use Rattle.gencmd_loads.specs.Loads.{Group, nobody, there, groups_of, Says}
use Rattle.gencmd_loads.proofs.GroupLaws.{rising, rising_at, rising_less, others, others_rise}
use Rattle.gencmd_loads.proofs.HeaderSays.{header_says}

-- ---- code is there, and the base page's group has its 16 paragraphs
pub record Paged (s : Groups) : Type 0 where
  pub code : 0 < s.code
  pub page : 0 < s.«data» → page_paragraphs ≤ s.«data»
  pub alone : s.«data» ≡ 0 → page_paragraphs ≤ s.code

pub paged : (r : Groups) → 0 < r.code → Paged (sizes_of r)
unfolding sizes_of
paged r h =
    record {
      code = rw (ne_eqb r.code 0 (λ e. omega arith)) (omega arith);
      page = λ k. some (eqb r.«data» 0) k;
      alone = λ k. rw (ne_eqb r.code 0 (λ e. omega arith)) (none (eqb r.«data» 0) k);
    }
  where
    some : (t : Bool) → 0 < cond t 0 (max page_paragraphs (rounded r.«data»)) → page_paragraphs ≤ cond t 0 (max page_paragraphs (rounded r.«data»))
    some true k = absurd (omega arith)
    some false k = omega arith

    none : (t : Bool) → cond t 0 (max page_paragraphs (rounded r.«data»)) ≡ 0 → page_paragraphs ≤ max (cond t page_paragraphs 0) (rounded r.code)
    none true k = omega arith
    none false k = absurd (omega arith)

module _ (s : Groups) (w : SizeWithin s) (p : Paged s) where
  abbrev h : List ℕ
  h = header s

  abbrev gs : List Group
  gs = groups_of s

  says : Says h gs
  says = header_says s w

  abbrev code : Group
  code = record { type = CODE; size = s.code }

  -- the first is code; behind it stands data, or what stands behind data
  code_first : gs ≡ code ∷ (there DATA s.«data» ++ others s)
  code_first = rw (ne_eqb s.code 0 (λ e. omega (arith, p.code)))

  some : 0 < length gs
  some = rw code_first (omega arith)

  at_first : get_or gs 0 nobody ≡ code
  at_first = ap (λ (x : List Group). get_or x 0 nobody) code_first

  each_good : (m : ℕ) → m < length gs → good_group h m ≡ true
  unfolding good_group
  each_good m l =
      let k = rising_at 0 gs (rising s w) m l in
      rw (
        says.type m l,
        le-leb CODE (get_or gs m nobody).type (omega (arith, k.low)),
        le-leb (get_or gs m nobody).type LAST_AUX (omega (arith, k.high)),
        any_none (λ j. eqb (type_at h j) (get_or gs m nobody).type) 0 m
            (λ j a b. rw (says.type j (omega arith)) (ne_eqb (get_or gs j nobody).type (get_or gs m nobody).type (λ e. let z = rising_less 0 gs (rising s w) j m (omega arith) l in omega arith))),
      )

  code_place : place_of h CODE ≡ 0
  unfolding place_of
  code_place =
      low_is (λ i. eqb (type_at h i) CODE) 0 (groups h) 0
      (record {
        from = omega arith;
        below = omega (arith, says.number, some);
        passes = rw (says.type 0 some, at_first);
        first = λ m a b. absurd (omega arith);
      })

  -- ---- with a data group
  module _ (d : 0 < s.«data») where
    abbrev values : Group
    values = record { type = DATA; size = s.«data» }

    data_next : gs ≡ code ∷ values ∷ others s
    data_next = code_first ∙ rw (ne_eqb s.«data» 0 (λ e. omega arith))

    two : 1 < length gs
    two = rw data_next (omega arith)

    data_place : place_of h DATA ≡ 1
    unfolding place_of
    data_place =
        low_is (λ i. eqb (type_at h i) DATA) 0 (groups h) 1
        (record {
          from = omega arith;
          below = omega (arith, says.number, two);
          passes = rw (says.type 1 two, data_next);
          first = λ m a b. let z : m ≡ 0 = omega arith in rw (z, says.type 0 some, at_first);
        })

    page_data : page_place h ≡ 1
    unfolding page_place
    page_data = rw (data_place, lt-ltb 1 (groups h) (omega (arith, says.number, two)))

    data_room : page_paragraphs ≤ need h (page_place h)
    data_room = rw (page_data, says.least 1 two, says.size 1 two, data_next) (omega (arith, p.page d))

  -- ---- without one
  module _ (d : s.«data» ≡ 0) where
    no_data : gs ≡ code ∷ others s
    no_data = code_first ∙ rw d

    not_data : (m : ℕ) → m < length gs → eqb (get_or gs m nobody).type DATA ≡ false
    not_data m l = rw no_data (go m (rw no_data at l))
      where
        go : (m : ℕ) → m < suc (length (others s)) → eqb (get_or (code ∷ others s) m nobody).type DATA ≡ false
        go zero l = refl
        go (suc m) l =
            ne_eqb (get_or (others s) m nobody).type DATA
            (λ e. let z = rising_at DATA (others s) (others_rise s w) m (omega arith) in omega (arith, z.low))

    data_nowhere : place_of h DATA ≡ 0 + groups h
    unfolding place_of
    data_nowhere =
        low_no (λ i. eqb (type_at h i) DATA) 0 (groups h)
        (λ m a b. let l : m < length gs = omega (arith, says.number) in rw (says.type m l) (not_data m l))

    page_code : page_place h ≡ 0
    unfolding page_place
    page_code = rw (le-ltb (place_of h DATA) (groups h) (omega (arith, data_nowhere))) code_place

    code_room : page_paragraphs ≤ need h (page_place h)
    code_room = rw (page_code, says.least 0 some, says.size 0 some, at_first) (omega (arith, p.alone d))

  room : page_paragraphs ≤ need h (page_place h)
  room = go (dec_lt 0 s.«data»)
    where
      go : Dec (0 < s.«data») → page_paragraphs ≤ need h (page_place h)
      go (yes d) = data_room d
      go (no d) = code_room (omega arith)

  pub header_good : good_header h ≡ true
  unfolding good_header
  header_good =
      rw (
        every_intro (good_group h) 0 (groups h) (λ m a b. each_good m (omega (arith, says.number))),
        lt-ltb (place_of h CODE) (groups h) (omega (arith, code_place, says.number, some)),
        le-leb page_paragraphs (need h (page_place h)) room,
      )
