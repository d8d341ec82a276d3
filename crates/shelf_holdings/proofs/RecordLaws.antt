-- The records present entry by entry: on a volume that passes inspection every file has one entry of each group and every
-- entry is of one file, so the records of all files are those of all entries.
use mathlib.Core.Path.{◌≡◌, refl, sym, ap, ◌∙◌}
use mathlib.Core.Bool.{Bool, true, false, cond, ◌&&◌, true≢false}
use mathlib.Core.Logic.{◌≢◌, ◌⊎◌, inl, inr}
use mathlib.Core.List.{List}
use Prim.Native.Nat.{ℕ, ◌+◌, ◌-◌, ◌*◌, ◌/◌, ◌≤◌, ◌<◌}
use native.Mathlib.Nat.{div-div-eq-div-mul}
use native.Mathlib.Omega.{arith}
use lib.Arith.{digits_div}
use borrow.Author.Tests.{ltb-true, ltb-false, eqb-true, eq-eqb, ne_eqb, not-true}
use lib.Dec.{leb, ltb, eqb}
use Rattle.lists.proofs.BoolLaws.{and_parts, and_left, and_right}
use Rattle.lists.specs.Bytes.{byte}
use Rattle.disk_geometry.specs.declared.Geometry.{Geometry}
use Rattle.disk_geometry.specs.Geometry.{lawful, extents, slots, group_of}
use Rattle.disk_geometry.proofs.GeometryLaws.{bounds}
use Rattle.disk_volume.specs.declared.Wanted.TheVariants.{File, Group}
use Rattle.disk_volume.specs.Name.{name_of}
use Rattle.files.proofs.FileLaws.{of_file_lem, own_file}
use Rattle.disk_volume.specs.Entry.{Entry, is_empty, extent, of_file, of_group}
use Rattle.disk_volume.specs.Directory.{slot_at, find_slot}
use Rattle.disk_volume.specs.Record.{record_slot, counted, present}
use Rattle.disk_volume.proofs.FindLaws.{found_fits, not_found, find_low}
use Rattle.disk_rules.specs.GoodSlot.{lowest_bad}
use Rattle.disk_rules.proofs.GoodLaws.{Fields, fields_good}
use Rattle.disk_rules.proofs.TwinLaws.{twins}
use Rattle.disk_rules.proofs.AcceptedLaws.{good_entry_lem, one_entry}
use Rattle.files.specs.Files.{is_listed}
use Rattle.shelf_holdings.specs.Holdings.{is_entry, is_file, most_records, file_records, records_present}
use Rattle.shelf_holdings.specs.CodeEntries.{entry_records, slot_records, records_by_entries}
use Rattle.sums.specs.Sum.{sum_from, sum}
use Rattle.sums.proofs.SumLaws.{sum_ext, sum_zero, sum_swap, sum_one, sum_pieces, count_sum}
use Rattle.shelf_holdings.proofs.PlaceLaws.{entry_run}

-- ---- the groups among the 65,536 records
-- an entry has one, two or four extents
abbrev OneTwoFour : ℕ → Type 0
OneTwoFour x = (x ≡ 1) ⊎ ((x ≡ 2) ⊎ (x ≡ 4))

extents_are : (g : Geometry) → lawful g ≡ true → OneTwoFour (extents g)
extents_are g law = go (leb g.blocks 256) refl (bounds g law).block_sizes
  where
    go : (t : Bool) → leb g.blocks 256 ≡ t → (g.block_bytes ≡ 1024) ⊎ ((g.block_bytes ≡ 2048) ⊎ (g.block_bytes ≡ 4096)) → OneTwoFour (extents g)
    go true q (inl e) = inl (rw (q, e))
    go true q (inr (inl e)) = inr (inl (rw (q, e)))
    go true q (inr (inr e)) = inr (inr (rw (q, e)))
    go false q (inl e) = absurd (omega (arith, rw (q, e) at (bounds g law).some_extents))
    go false q (inr (inl e)) = inl (rw (q, e))
    go false q (inr (inr e)) = inr (inl (rw (q, e)))

-- a group has 128X of the records, and there are 512/X groups
whole_groups : (x : ℕ) → OneTwoFour x → 512 / x * (128 * x) ≡ 65536
whole_groups x (inl e) = rw e
whole_groups x (inr (inl e)) = rw e
whole_groups x (inr (inr e)) = rw e

group_below_lem : (x n : ℕ) → OneTwoFour x → n ≤ 511 → n / x < 512 / x
group_below_lem x n (inl e) h = rw e (omega arith)
group_below_lem x n (inr (inl e)) h = rw e (omega arith)
group_below_lem x n (inr (inr e)) h = rw e (omega arith)

group_beyond : (x n : ℕ) → OneTwoFour x → 65536 ≤ n → 512 / x ≤ n / 128 / x
group_beyond x n (inl e) h = rw e (omega arith)
group_beyond x n (inr (inl e)) h = rw e (omega arith)
group_beyond x n (inr (inr e)) h = rw e (omega arith)

module _ (g : Geometry) (law : lawful g ≡ true) (e : Entry) where
  -- record n is in the entry's group and present there
  abbrev here : ℕ → ℕ
  here n = cond (eqb (group_of g (extent e)) (group_of g (n / 128)) && counted g e n) 1 0

  group_of_lem : (c d : ℕ) → d < 128 * extents g → group_of g ((c * (128 * extents g) + d) / 128) ≡ c
  unfolding group_of
  group_of_lem c d h = div-div-eq-div-mul (c * (128 * extents g) + d) 128 (extents g) ∙ digits_div c h

  group_at : (c m : ℕ) → c * (128 * extents g) ≤ m → m < c * (128 * extents g) + 128 * extents g → group_of g (m / 128) ≡ c
  group_at c m a b =
      let z : c * (128 * extents g) + (m - c * (128 * extents g)) ≡ m = omega arith in
      ap (λ (x : ℕ). group_of g (x / 128)) (sym z) ∙ group_of_lem c (m - c * (128 * extents g)) (omega arith)

  -- the records of group c that are in the entry's group
  of_group_lem : (c : ℕ) → c ≢ group_of g (extent e) → sum_from here (0 + c * (128 * extents g)) (128 * extents g) ≡ 0
  of_group_lem c n =
      sum_zero here (0 + c * (128 * extents g)) (128 * extents g)
      (λ m a b. rw (group_at c m (omega arith) (omega arith), ne_eqb (group_of g (extent e)) c (λ z. n (sym z))))

  own_group : sum_from here (0 + group_of g (extent e) * (128 * extents g)) (128 * extents g) ≡ entry_records g e
  own_group =
      let z : 0 + group_of g (extent e) * (128 * extents g) ≡ group_of g (extent e) * (128 * extents g) = omega arith in
      rw z (sum_ext here (λ n. cond (counted g e n) 1 0) (group_of g (extent e) * (128 * extents g)) (128 * extents g)
      (λ m a b. rw (group_at (group_of g (extent e)) m a b, eq-eqb (group_of g (extent e)) (group_of g (extent e)) refl)))
      ∙ sym (count_sum (counted g e) (group_of g (extent e) * (128 * extents g)) (128 * extents g))
      ∙ sym (entry_run g law e)

  group_lt : extent e ≤ 511 → group_of g (extent e) < 512 / extents g
  unfolding group_of
  group_lt x = group_below_lem (extents g) (extent e) (extents_are g law) x

  pub among_all : Fields e → sum most_records here ≡ entry_records g e
  among_all f =
      let w : 512 / extents g * (128 * extents g) ≡ 65536 = whole_groups (extents g) (extents_are g law) in
      let x : extent e ≤ 511 = omega (arith, f.ex, f.s2) in
      let z : 0 + 0 * (128 * extents g) ≡ 0 = omega arith in
      sym (rw (z, w) at (sum_pieces here 0 (128 * extents g) 0 (512 / extents g)))
      ∙ sum_one (λ c. sum_from here (0 + c * (128 * extents g)) (128 * extents g)) 0 (512 / extents g) (group_of g (extent e)) (omega arith) (omega (arith, group_lt x))
      (λ c a b n. of_group_lem c n)
      ∙ own_group

module _ (g : Geometry) (v : List ℕ) (law : lawful g ≡ true) (ok : lowest_bad g v ≡ slots g) where
  abbrev user : ℕ → ℕ
  user i = byte (slot_at g v i) 0

  abbrev name : ℕ → List ℕ
  name i = name_of (slot_at g v i)

  -- record n is present by the entry in slot j
  abbrev by : ℕ → ℕ → ℕ
  by j n = here g law (slot_at g v j) n

  -- ---- a record of a file is present by one entry of the file, or not at all
  module _ (u : ℕ) (file : List ℕ) (used : eqb u 229 ≡ false) (n : ℕ) where
    abbrev by_of : ℕ → ℕ
    by_of j = cond (of_file u file (slot_at g v j)) (by j n) 0

    abbrev k : ℕ
    k = group_of g (n / 128)

    not_group : (j : ℕ) → of_group g u file k (slot_at g v j) ≡ false → by_of j ≡ 0
    unfolding of_group
    not_group j h = go (of_file u file (slot_at g v j)) refl (eqb (group_of g (extent (slot_at g v j))) k) refl h
      where
        go : (s : Bool) → of_file u file (slot_at g v j) ≡ s → (t : Bool) → eqb (group_of g (extent (slot_at g v j))) k ≡ t
            → (of_file u file (slot_at g v j) && eqb (group_of g (extent (slot_at g v j))) k) ≡ false → by_of j ≡ 0
        go false e t q f = rw e
        go true e false q f = rw (e, q)
        go true e true q f = absurd (true≢false (sym (rw (e, q)) ∙ f))

    -- an entry of the file is in use
    in_use : (j : ℕ) → of_file u file (slot_at g v j) ≡ true → is_empty (slot_at g v j) ≡ false
    in_use j h = rw (of_file_lem u file (slot_at g v j) h).user used

    -- no entry has a group behind the 65,536 records
    pub none_beyond : 65536 ≤ n → present g v u file n ≡ false
    unfolding present record_slot of_group group_of
    none_beyond far = go (ltb (find_slot g v u file (Group k)) (slots g)) refl
      where
        clash : find_slot g v u file (Group k) < slots g → ⊥
        clash l =
            let s = find_slot g v u file (Group k) in
            let x = and_parts (of_file u file (slot_at g v s)) (eqb (group_of g (extent (slot_at g v s))) k) (found_fits g v u file (Group k) l) in
            let f = fields_good (slot_at g v s) (good_entry_lem g v ok s l (in_use s x.0)).fields in
            let high : extent (slot_at g v s) ≤ 511 = omega (arith, f.ex, f.s2) in
            absurd (omega (arith, group_lt g law (slot_at g v s) high, eqb-true (group_of g (extent (slot_at g v s))) k x.1, group_beyond (extents g) n (extents_are g law) far))

        go : (t : Bool) → ltb (find_slot g v u file (Group k)) (slots g) ≡ t
            → (ltb (find_slot g v u file (Group k)) (slots g) && counted g (slot_at g v (find_slot g v u file (Group k))) n) ≡ false
        go true e = absurd (clash (ltb-true (find_slot g v u file (Group k)) (slots g) e))
        go false e = rw e

    two : (i j : ℕ) → i < slots g → j < slots g → of_group g u file k (slot_at g v i) ≡ true → of_group g u file k (slot_at g v j) ≡ true → i ≡ j
    unfolding of_group
    two i j a b p q =
        let x = and_parts (of_file u file (slot_at g v i)) (eqb (group_of g (extent (slot_at g v i))) k) p in
        let y = and_parts (of_file u file (slot_at g v j)) (eqb (group_of g (extent (slot_at g v j))) k) q in
        let s = of_file_lem u file (slot_at g v i) x.0 in
        let t = of_file_lem u file (slot_at g v j) y.0 in
        one_entry g v ok i j a b (in_use i x.0) (in_use j y.0)
        (twins g (slot_at g v i) (slot_at g v j) (record {
          user = s.user ∙ sym t.user;
          name = s.called ∙ sym t.called;
          group = eqb-true _ _ x.1 ∙ sym (eqb-true _ _ y.1);
        }))

    by_group : (j : ℕ) → of_group g u file k (slot_at g v j) ≡ true → by_of j ≡ cond (counted g (slot_at g v j) n) 1 0
    unfolding of_group
    by_group j p =
        let x = and_parts (of_file u file (slot_at g v j)) (eqb (group_of g (extent (slot_at g v j))) k) p in
        rw (x.0, x.1)

    pub present_once : cond (present g v u file n) 1 0 ≡ sum (slots g) by_of
    unfolding present record_slot
    present_once = go (ltb (find_slot g v u file (Group k)) (slots g)) refl
      where
        s : ℕ
        s = find_slot g v u file (Group k)

        other : find_slot g v u file (Group k) < slots g → (j : ℕ) → j < slots g → j ≢ find_slot g v u file (Group k) → (t : Bool) → of_group g u file k (slot_at g v j) ≡ t → by_of j ≡ 0
        other h j l ne false e = not_group j e
        other h j l ne true e = absurd (ne (two j (find_slot g v u file (Group k)) l h e (found_fits g v u file (Group k) h)))

        go : (t : Bool) → ltb (find_slot g v u file (Group k)) (slots g) ≡ t
            → cond (ltb (find_slot g v u file (Group k)) (slots g) && counted g (slot_at g v (find_slot g v u file (Group k))) n) 1 0 ≡ sum (slots g) by_of
        go true e =
            let h = ltb-true (find_slot g v u file (Group k)) (slots g) e in
            rw e (sym (
            sum_one by_of 0 (slots g) (find_slot g v u file (Group k)) (omega arith) (omega arith) (λ j a l ne. other h j (omega arith) ne (of_group g u file k (slot_at g v j)) refl)
            ∙ by_group (find_slot g v u file (Group k)) (found_fits g v u file (Group k) h)))
        go false e =
            let h = ltb-false (find_slot g v u file (Group k)) (slots g) e in
            rw e (sym (sum_zero by_of 0 (slots g) (λ j a l. not_group j (not_found g v u file (Group k) h j (omega arith)))))

  -- ---- the records of a file, entry by entry
  -- all records that are present by slot j
  abbrev all : ℕ → ℕ
  all j = sum most_records (by j)

  pull : (t : Bool) (f : ℕ → ℕ) (i k : ℕ) → sum_from (λ n. cond t (f n) 0) i k ≡ cond t (sum_from f i k) 0
  pull true f i k = refl
  pull false f i k = sum_zero (λ n. 0) i k (λ m a b. refl)

  file_records_lem : (u : ℕ) (file : List ℕ) → eqb u 229 ≡ false → file_records g v u file ≡ sum (slots g) (λ j. cond (of_file u file (slot_at g v j)) (all j) 0)
  unfolding file_records
  file_records_lem u file used =
      count_sum (present g v u file) 0 most_records
      ∙ sum_ext (λ n. cond (present g v u file n) 1 0) (λ n. sum (slots g) (λ j. cond (of_file u file (slot_at g v j)) (by j n) 0)) 0 most_records (λ n a b. present_once u file used n)
      ∙ sum_swap (λ n j. cond (of_file u file (slot_at g v j)) (by j n) 0) 0 most_records 0 (slots g)
      ∙ sum_ext (λ j. sum most_records (λ n. cond (of_file u file (slot_at g v j)) (by j n) 0)) (λ j. cond (of_file u file (slot_at g v j)) (all j) 0) 0 (slots g)
      (λ j a b. pull (of_file u file (slot_at g v j)) (by j) 0 most_records)

  -- ---- every entry is of the file that one slot stands for
  abbrev share : ℕ → ℕ → ℕ
  share i j = cond (is_file g v i) (cond (of_file (user i) (name i) (slot_at g v j)) (all j) 0) 0

  -- the slot that stands for the file of slot j
  abbrev lowest_of : ℕ → ℕ
  lowest_of j = find_slot g v (user j) (name j) File

  -- slot i stands for the file of the entry in slot j: it is the lowest of that file
  is_lowest : (i j : ℕ) → is_file g v i ≡ true → of_file (user i) (name i) (slot_at g v j) ≡ true → i ≡ lowest_of j
  unfolding is_listed
  is_lowest i j f h =
      let o = of_file_lem (user i) (name i) (slot_at g v j) h in
      let e : lowest_of i ≡ i = eqb-true (lowest_of i) i (and_right (is_entry g v i) (eqb (lowest_of i) i) f) in
      rw (o.user, o.called) (sym e)

  stands : (j : ℕ) → j < slots g → is_empty (slot_at g v j) ≡ false → (is_file g v (lowest_of j) ≡ true) × (of_file (user (lowest_of j)) (name (lowest_of j)) (slot_at g v j) ≡ true)
  unfolding is_listed
  stands j l used =
      let low : lowest_of j ≤ j = find_low g v (user j) (name j) File j (own_file (slot_at g v j)) in
      let o = of_file_lem (user j) (name j) (slot_at g v (lowest_of j)) (found_fits g v (user j) (name j) File (omega arith)) in
      (rw (o.user, o.called, used, eq-eqb (lowest_of j) (lowest_of j) refl), rw (o.user, o.called) (own_file (slot_at g v j)))

  -- the user of a file is not that of an empty slot, and so is none of its entries
  file_used : (i : ℕ) → is_file g v i ≡ true → eqb (user i) 229 ≡ false
  unfolding is_listed
  file_used i p = not-true (is_empty (slot_at g v i)) (and_left (is_entry g v i) (eqb (lowest_of i) i) p)

  in_file : (i j : ℕ) → is_file g v i ≡ true → of_file (user i) (name i) (slot_at g v j) ≡ true → is_empty (slot_at g v j) ≡ false
  in_file i j p q = rw (of_file_lem (user i) (name i) (slot_at g v j) q).user (file_used i p)

  share_own : (j : ℕ) → j < slots g → sum (slots g) (λ i. share i j) ≡ slot_records g v j
  unfolding slot_records
  share_own j l = go (is_empty (slot_at g v j)) refl
    where
      -- an empty slot has no part in any file
      none : is_empty (slot_at g v j) ≡ true → (i : ℕ) → (s : Bool) → is_file g v i ≡ s → (t : Bool) → of_file (user i) (name i) (slot_at g v j) ≡ t → share i j ≡ 0
      none e i false p t q = rw p
      none e i true p false q = rw (p, q)
      none e i true p true q = absurd (true≢false (sym e ∙ in_file i j p q))

      other : (i : ℕ) → i ≢ lowest_of j → (s : Bool) → is_file g v i ≡ s → (t : Bool) → of_file (user i) (name i) (slot_at g v j) ≡ t → share i j ≡ 0
      other i n false p t q = rw p
      other i n true p false q = rw (p, q)
      other i n true p true q = absurd (n (is_lowest i j p q))

      go : (t : Bool) → is_empty (slot_at g v j) ≡ t → sum (slots g) (λ i. share i j) ≡ cond (is_entry g v j) (entry_records g (slot_at g v j)) 0
      go true e = sum_zero (λ i. share i j) 0 (slots g) (λ i a b. none e i (is_file g v i) refl (of_file (user i) (name i) (slot_at g v j)) refl) ∙ rw e
      go false e =
          let s = stands j l e in
          let low : lowest_of j ≤ j = find_low g v (user j) (name j) File j (own_file (slot_at g v j)) in
          sum_one (λ i. share i j) 0 (slots g) (lowest_of j) (omega arith) (omega arith)
          (λ i a b n. other i n (is_file g v i) refl (of_file (user i) (name i) (slot_at g v j)) refl)
          ∙ rw (s.0, s.1, e) (among_all g law (slot_at g v j) (fields_good (slot_at g v j) (good_entry_lem g v ok j l e).fields))

  pub by_entries : records_present g v ≡ records_by_entries g v
  unfolding records_present records_by_entries
  by_entries =
      sum_ext (λ i. cond (is_file g v i) (file_records g v (user i) (name i)) 0) (λ i. sum (slots g) (share i)) 0 (slots g) (λ i a b. spread i (is_file g v i) refl)
      ∙ sum_swap share 0 (slots g) 0 (slots g)
      ∙ sum_ext (λ j. sum (slots g) (λ i. share i j)) (slot_records g v) 0 (slots g) (λ j a b. share_own j (omega arith))
    where
      spread : (i : ℕ) → (t : Bool) → is_file g v i ≡ t → cond (is_file g v i) (file_records g v (user i) (name i)) 0 ≡ sum (slots g) (share i)
      spread i true e =
          rw e (file_records_lem (user i) (name i) (file_used i e))
          ∙ sum_ext (λ j. cond (of_file (user i) (name i) (slot_at g v j)) (all j) 0) (share i) 0 (slots g) (λ j a b. rw e)
      spread i false e = rw e (sym (sum_zero (share i) 0 (slots g) (λ j a b. rw e)))
