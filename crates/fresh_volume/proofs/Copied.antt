-- The fresh disk, slot by slot and record by record; its blocks counted.
use mathlib.Core.Path.{◌≡◌, refl, sym, ap, ap₂, ◌∙◌}
use mathlib.Core.Bool.{Bool, true, false, not, cond, ◌&&◌, true≢false}
use mathlib.Core.Logic.{⊎_elim, ◌≢◌}
use mathlib.Core.List.{List}
use Prim.Native.Nat.{ℕ, ◌+◌, ◌-◌, ◌≤◌, ◌<◌}
use native.Mathlib.Decide.{dec_lt}
use native.Mathlib.Omega.{arith}
use lib.Dec.{leb, ltb, eqb}
use lib.ListN.{length, get_or, replicate, length-replicate, get_or-eq_default}
use borrow.Author.Tests.{lt-ltb, le-ltb, le-leb, eq-eqb, ne_eqb, eqb-true, eqb-false, not-true, ltb-true}
use Rattle.lists.specs.Bounded.{count_from}
use Rattle.lists.proofs.BoundedLaws.{any_true, any_intro, count_ext}
use Rattle.disk_geometry.specs.declared.Geometry.{Geometry}
use Rattle.disk_geometry.specs.Geometry.{lawful, bytes, slots, places, inside}
use Rattle.disk_geometry.proofs.GeometryLaws.{bounds}
use Rattle.disk_geometry.proofs.InsideLaws.{inside_is, is_inside}
use Rattle.disk_volume.specs.Entry.{Entry, block_in}
use Rattle.disk_volume.specs.Directory.{slot_at}
use Rattle.disk_volume.specs.Record.{record_at}
use Rattle.disk_volume.proofs.DirectoryLaws.{slot_length, record_length}
use Rattle.disk_held.specs.Held.{is_free, free_count}
use Rattle.disk_held.proofs.CountLaws.{count_not}
use Rattle.disk_rules.specs.GoodSlot.{named_below, lowest_bad}
use Rattle.disk_rules.specs.Named.{named, held_of, free_of}
use Rattle.disk_rules.proofs.AcceptedLaws.{good_entry_lem, one_place}
use Rattle.disk_rules.proofs.NamedLaws.{named_at, at_named, holds_held}
use Rattle.files.specs.Files.{is_used}
use Rattle.fresh_order.specs.Order.{order}
use Rattle.fresh_order.proofs.OrderLaws.{IsEntry, few_entries, entry_of, there_is, one_of}
use Rattle.fresh_volume.specs.Copy.{numbered, entry_at, blocks_before, first_number, copied_entry, comes_to, copied_record, laid_out, fresh}
use Rattle.fresh_volume.proofs.LaidLaws.{Laid, laid_none, laid_slots, laid_blocks, laid_ext, record_mod}
use Rattle.fresh_volume.proofs.NumberedLaws.{numbered_length, turn, turn_low, turn_at, Turn, turn_of}
use Rattle.fresh_volume.proofs.Counting.{in_first, count_distinct}

-- two tests that are true of the same are one
both : (a b : Bool) → (a ≡ true → b ≡ true) → (b ≡ true → a ≡ true) → a ≡ b
both true b f h = sym (f refl)
both false true f h = h refl
both false false f h = refl

pub used_not_zero : (g : Geometry) (e : Entry) (p : ℕ) → is_used g e p ≡ true → block_in g e p ≢ 0
used_not_zero g e p u = eqb-false (block_in g e p) 0 (not-true _ u)

not_zero_used : (g : Geometry) (e : Entry) (p : ℕ) → block_in g e p ≢ 0 → is_used g e p ≡ true
not_zero_used g e p n = ap not (ne_eqb (block_in g e p) 0 n)

-- ---- a worn disk that log-in accepts
module _ (g : Geometry) (v : List ℕ) (law : lawful g ≡ true) (size : length v ≡ bytes g) (ok : lowest_bad g v ≡ slots g) where
  -- how many entries it has, and its blocks as they come
  abbrev pub many : ℕ
  many = length (order g v)

  abbrev pub moved : List ℕ
  moved = blocks_before g v (order g v) many

  abbrev pub entry : ℕ → Entry
  entry k = entry_at g v (order g v) k

  abbrev pub place : ℕ → ℕ → ℕ
  place = turn g v (order g v)

  pub is_entry_lem : (k : ℕ) → k < many → IsEntry g v (slots g) (get_or (order g v) k 0)
  is_entry_lem = entry_of g v law ok

  pub entry_length : (k : ℕ) → k < many → length (entry k) ≡ 32
  entry_length k h = slot_length g law v size (get_or (order g v) k 0) (is_entry_lem k h).0

  -- a block in a map is one from D to T-1
  pub block_inside : (k p : ℕ) → k < many → p < places g → is_used g (entry k) p ≡ true → inside g (block_in g (entry k) p) ≡ true
  block_inside k p h q u =
      ⊎_elim (λ z. absurd (used_not_zero g (entry k) p u z)) (λ w. w)
      ((good_entry_lem g v ok (get_or (order g v) k 0) (is_entry_lem k h).0 (is_entry_lem k h).1).block p q)

  -- ---- the blocks as they come are different ones, from D to T-1
  moved_is : (j : ℕ) (t : Turn g v (order g v) many j) → get_or moved j 0 ≡ block_in g (entry t.entry) t.place
  moved_is j t = ap (λ (x : ℕ). get_or moved x 0) t.is ∙ turn_at g v (order g v) t.entry many t.place t.lower t.in_map t.used

  pub moved_inside : (j : ℕ) → j < length moved → inside g (get_or moved j 0) ≡ true
  moved_inside j h =
      let t = turn_of g v (order g v) many j h in
      rw (moved_is j t) (block_inside t.entry t.place t.lower t.in_map t.used)

  moved_apart : (i j : ℕ) → i < j → j < length moved → get_or moved i 0 ≢ get_or moved j 0
  moved_apart i j h l e =
      let s = turn_of g v (order g v) many i (omega arith) in
      let t = turn_of g v (order g v) many j l in
      let f : block_in g (entry s.entry) s.place ≡ block_in g (entry t.entry) t.place = sym (moved_is i s) ∙ e ∙ moved_is j t in
      let a = is_entry_lem s.entry s.lower in
      let b = is_entry_lem t.entry t.lower in
      let one = one_place g v ok (get_or (order g v) s.entry 0) s.place (get_or (order g v) t.entry 0) t.place
      (record { slot = a.0; used = a.1; place = s.in_map }) (record { slot = b.0; used = b.1; place = t.in_map })
      (used_not_zero g (entry s.entry) s.place s.used) f in
      let z : s.entry ≡ t.entry = one_of g v law ok s.entry t.entry s.lower t.lower one.0 in
      omega (arith, s.is, t.is, ap₂ place z one.1)

  count_moved : count_from (in_first moved (length moved)) g.directory_blocks (g.blocks - g.directory_blocks) ≡ length moved
  count_moved =
      count_distinct moved g.directory_blocks (g.blocks - g.directory_blocks)
      (λ j h. let k = inside_is g (get_or moved j 0) (moved_inside j h) in (k.0, omega (arith, k.1, (bounds g law).directory_below)))
      moved_apart (length moved) (omega arith)

  named_moved : (b : ℕ) → g.directory_blocks ≤ b → b < g.blocks → named g v b ≡ in_first moved (length moved) b
  unfolding named
  named_moved b low high = rw (is_inside g b low high) (both (named_below g v (slots g) b) (in_first moved (length moved) b) there back)
    where
      there : named_below g v (slots g) b ≡ true → in_first moved (length moved) b ≡ true
      there h =
          let a = named_at g v (slots g) b h in
          let w = there_is g v law ok a.slot (a.below, a.used) in
          let e : entry w.place ≡ slot_at g v a.slot = ap (slot_at g v) w.is in
          let i : block_in g (entry w.place) a.place ≡ b = ap (λ (x : Entry). block_in g x a.place) e ∙ a.is in
          let u : is_used g (entry w.place) a.place ≡ true = not_zero_used g (entry w.place) a.place (λ z. omega (arith, (bounds g law).directory_low)) in
          any_intro (λ j. eqb (get_or moved j 0) b) 0 (length moved) (place w.place a.place) (omega arith)
          (omega (arith, turn_low g v (order g v) w.place many a.place w.below a.in_map u))
          (eq-eqb _ b (turn_at g v (order g v) w.place many a.place w.below a.in_map u ∙ i))

      back : in_first moved (length moved) b ≡ true → named_below g v (slots g) b ≡ true
      back h =
          let a = any_true (λ j. eqb (get_or moved j 0) b) 0 (length moved) h in
          let t = turn_of g v (order g v) many a.place (omega (arith, a.below)) in
          let k = is_entry_lem t.entry t.lower in
          at_named g v (slots g) b (record {
            slot = get_or (order g v) t.entry 0;
            below = k.0;
            used = k.1;
            place = t.place;
            in_map = t.in_map;
            is = sym (moved_is a.place t) ∙ eqb-true (get_or moved a.place 0) b a.passes;
          })

  -- every block from D to T-1 is free, or comes to another
  pub free_and_moved : free_of g v + length moved ≡ g.blocks - g.directory_blocks
  unfolding free_count
  free_and_moved =
      let d = g.directory_blocks in
      let n = g.blocks - g.directory_blocks in
      let e : count_from (is_free (held_of g v)) d n ≡ count_from (λ b. not (in_first moved (length moved) b)) d n =
      count_ext (is_free (held_of g v)) (λ b. not (in_first moved (length moved) b)) d n
      (λ b low high. ap not (holds_held g v b (omega (arith, bounds g law)) ∙ named_moved b low (omega (arith, bounds g law)))) in
      rw e (omega (arith, count_not (in_first moved (length moved)) d n, count_moved))

  pub moved_fit : g.directory_blocks + length moved ≤ g.blocks
  moved_fit = omega (arith, free_and_moved, (bounds g law).directory_below)

  -- ---- what comes to a block
  pub comes : (k p : ℕ) → k < many → p < places g → is_used g (entry k) p ≡ true
      → comes_to g v (order g v) (g.directory_blocks + place k p) ≡ block_in g (entry k) p
  comes k p h q u =
      let z : g.directory_blocks + place k p - g.directory_blocks ≡ place k p = omega arith in
      ap (λ (x : ℕ). get_or moved x 0) z ∙ turn_at g v (order g v) k many p h q u

  -- ---- what is laid has the right lengths
  pub fresh_entry_length : (k : ℕ) → length (copied_entry g v (order g v) k) ≡ 32
  unfolding copied_entry
  fresh_entry_length k = go (ltb k many) refl
    where
      go : (t : Bool) → ltb k many ≡ t → length (cond t (numbered g (first_number g v (order g v) k) (entry k)) (replicate 32 229)) ≡ 32
      go true e = numbered_length g (first_number g v (order g v) k) (entry k) (entry_length k (ltb-true k many e))
      go false e = length-replicate {A = ℕ} 32 229

  pub fresh_record_length : (b n : ℕ) → length (copied_record g v (order g v) b n) ≡ 128
  unfolding copied_record
  fresh_record_length b n = go (dec_lt (b - g.directory_blocks) (length moved)) (eqb from 0) refl
    where
      from : ℕ
      from = comes_to g v (order g v) b

      go : Dec (b - g.directory_blocks < length moved) → (t : Bool) → eqb from 0 ≡ t → length (cond t (replicate 128 229) (record_at g v from n)) ≡ 128
      go d true e = length-replicate {A = ℕ} 128 229
      go (yes h) false e = record_length g law v size from n (inside_is g from (moved_inside (b - g.directory_blocks) h)).1
      go (no h) false e = absurd (true≢false (sym (eq-eqb from 0 (get_or-eq_default moved 0 (omega arith))) ∙ e))

  -- ---- the fresh disk on a second disk w
  module _ (w : List ℕ) (w-size : length w ≡ bytes g) where
    pub fresh_laid : Laid g law w (copied_entry g v (order g v)) (copied_record g v (order g v)) (fresh g v w)
    unfolding fresh laid_out
    fresh_laid =
        let d = g.directory_blocks in
        let n = g.blocks - g.directory_blocks in
        let s = copied_entry g v (order g v) in
        let r = copied_record g v (order g v) in
        let none = laid_none g law w w-size in
        let slots-laid = laid_slots g law w (record_at g w) s (λ k h. fresh_entry_length k) (slots g) 0 (slot_at g w) w (omega arith) none in
        let all_Laid = laid_blocks g law w (λ k. cond (leb 0 k && ltb k (0 + slots g)) (s k) (slot_at g w k)) r (λ b m low high h. fresh_record_length b m) n d (record_at g w) _ (omega arith) (omega (arith, (bounds g law).directory_below)) slots-laid in
        laid_ext g law w (λ k. cond (leb 0 k && ltb k (0 + slots g)) (s k) (slot_at g w k)) s (λ b m. cond (leb d b && ltb b (d + n)) (r b m) (record_at g w b m)) r _
        (λ k h. rw (le-leb 0 k (omega arith), lt-ltb k (0 + slots g) (omega arith)))
        (λ b m low high h. rw (le-leb d b low, lt-ltb b (d + n) (omega arith)))
        all_Laid

    pub fresh_size : length (fresh g v w) ≡ bytes g
    fresh_size = fresh_laid.size

    pub slot_fresh : (k : ℕ) → k < many → slot_at g (fresh g v w) k ≡ numbered g (first_number g v (order g v) k) (entry k)
    unfolding copied_entry
    slot_fresh k h = fresh_laid.slot k (omega (arith, few_entries g v law ok)) ∙ rw (lt-ltb k many h)

    pub slot_blank : (k : ℕ) → many ≤ k → k < slots g → slot_at g (fresh g v w) k ≡ replicate 32 229
    unfolding copied_entry
    slot_blank k h l = fresh_laid.slot k l ∙ rw (le-ltb k many h)

    pub block_low : (k p : ℕ) → k < many → p < places g → is_used g (entry k) p ≡ true → g.directory_blocks + place k p < g.blocks
    block_low k p h q u = omega (arith, turn_low g v (order g v) k many p h q u, moved_fit)

    -- the block of place p of entry k has come with all its records
    pub record_fresh : (k p n : ℕ) → k < many → p < places g → is_used g (entry k) p ≡ true
        → record_at g (fresh g v w) (g.directory_blocks + place k p) n ≡ record_at g v (block_in g (entry k) p) n
    unfolding copied_record
    record_fresh k p n h q u =
        fresh_laid.block (g.directory_blocks + place k p) n (omega arith) (block_low k p h q u)
        ∙ rw (comes k p h q u, ne_eqb (block_in g (entry k) p) 0 (used_not_zero g (entry k) p u)) (record_mod g law v (block_in g (entry k) p) n)
