-- Blocks stand apart: in the directory each block stands in one place, within D to T-1, and the state holds it. An
-- inspected directory is so, a write finds its block apart from all others, and it leaves the directory so.
use mathlib.Core.Path.{◌≡◌, refl, sym, ap, ◌∙◌}
use mathlib.Core.Bool.{Bool, true, false, cond, true≢false}
use mathlib.Core.Logic.{◌⊎◌, inl, inr, ⊎_elim, ◌≢◌}
use mathlib.Core.List.{List}
use Prim.Native.Nat.{ℕ, ◌/◌, ◌≤◌, ◌<◌}
use native.Mathlib.Decide.{ℕ_discrete}
use native.Mathlib.Omega.{arith}
use lib.Dec.{eqb}
use lib.ListN.{length}
use borrow.Author.Tests.{ltb-true, eq-eqb}
use Rattle.lists.proofs.BoolLaws.{and_left}
use Rattle.disk_geometry.specs.declared.Geometry.{Geometry}
use Rattle.disk_volume.specs.declared.Wanted.TheVariants.{File, Group}
use Rattle.disk_geometry.specs.Geometry.{lawful, bytes, slots, group_of, place_of, places}
use Rattle.disk_volume.specs.Entry.{Entry, is_empty, extent, block_in, of_file, of_group}
use Rattle.disk_volume.specs.Directory.{slot_at, find_slot}
use Rattle.disk_volume.specs.Record.{record_slot, record_block}
use Rattle.disk_volume.proofs.DirectoryLaws.{slot_length}
use Rattle.disk_volume.proofs.FindLaws.{found_fits}
use Rattle.disk_geometry.proofs.GeometryLaws.{bounds, place_lt}
use Rattle.disk_held.specs.Held.{room, held_words, holds, hold}
use Rattle.disk_held.proofs.HoldLaws.{length_hold, holds_hold_same, holds_hold_other}
use Rattle.call_answers.specs.Refusal.{is_none, first_met}
use Rattle.disk_rules.specs.GoodSlot.{lowest_bad}
use Rattle.disk_rules.specs.Named.{named}
use Rattle.disk_rules.proofs.AcceptedLaws.{good_entry_lem, place_named, one_place}
use Rattle.call_decide.specs.Write.{has_group, write_slot, base_entry, needs_block, write_block, write_tests}
use Rattle.call_entry.specs.Grown.{like_entry}
use Rattle.call_entry.specs.Alloc.{alloc}
use Rattle.call_write.proofs.AfterLaws.{written, held_after, after_block, after_slot, after_slot_other}
use Rattle.call_entry.proofs.AllocLaws.{alloc_given}
use Rattle.call_entry.proofs.GrowLaws.{written_other}
use Rattle.call_decide.proofs.WriteLaws.{write_passed}
use Rattle.disk_geometry.proofs.InsideLaws.{inside_is}
use Rattle.demands.proofs.Demand2Entries.{file_used}
use Rattle.demands.proofs.NewEntry.{like_block}

-- a place of the map of an entry
pub record At (g : Geometry) (v : List ℕ) (i p : ℕ) : Type 0 where
  pub slot : i < slots g
  pub used : is_empty (slot_at g v i) ≡ false
  pub place : p < places g

pub record Apart (g : Geometry) (held v : List ℕ) : Type 0 where
  pub size : length held ≡ held_words
  pub range : (i p : ℕ) → At g v i p → block_in g (slot_at g v i) p ≢ 0
      → (g.directory_blocks ≤ block_in g (slot_at g v i) p) × (block_in g (slot_at g v i) p < g.blocks)
  pub once : (i p j q : ℕ) → At g v i p → At g v j q → block_in g (slot_at g v i) p ≢ 0 → block_in g (slot_at g v i) p ≡ block_in g (slot_at g v j) q
      → (i ≡ j) × (p ≡ q)
  pub held_is : (i p : ℕ) → At g v i p → block_in g (slot_at g v i) p ≢ 0 → holds held (block_in g (slot_at g v i) p) ≡ true

-- ---- an inspected directory
pub inspected : (g : Geometry) (held v : List ℕ) → length held ≡ held_words → lowest_bad g v ≡ slots g
    → ((b : ℕ) → named g v b ≡ true → holds held b ≡ true) → Apart g held v
inspected g held v size ok h = record {
  size = size;
  range = λ i p a n. inside_is g (block_in g (slot_at g v i) p) (⊎_elim (λ z. absurd (n z)) (λ w. w) ((good_entry_lem g v ok i a.slot a.used).block p a.place));
  once = λ i p j q a b. one_place g v ok i p j q (record { slot = a.slot; used = a.used; place = a.place }) (record { slot = b.slot; used = b.used; place = b.place });
  held_is = λ i p a n. h (block_in g (slot_at g v i) p) (place_named g v ok i p (record { slot = a.slot; used = a.used; place = a.place }) n);
}

-- ---- the block of a write
-- the entry of a record's group is no empty slot
pub group_used : (g : Geometry) (v : List ℕ) (u : ℕ) (name : List ℕ) (m : ℕ) → u ≤ 15 → record_slot g v u name m < slots g
    → is_empty (slot_at g v (record_slot g v u name m)) ≡ false
unfolding record_slot of_group
group_used g v u name m u15 h =
    let e = slot_at g v (record_slot g v u name m) in
    file_used u name e u15 (and_left (of_file u name e) (eqb (group_of g (extent e)) (group_of g (m / 128))) (found_fits g v u name (Group (group_of g (m / 128))) h))

module _ (g : Geometry) (held v : List ℕ) (u : ℕ) (name : List ℕ) (n : ℕ) (good : lawful g ≡ true) (size : length v ≡ bytes g) (u15 : u ≤ 15)
    (passed : is_none (first_met (write_tests g held v u name n)) ≡ true) where
  -- an entry of the record's group is there
  pub record Own : Type 0 where
    pub slot_is : write_slot g v u name n ≡ record_slot g v u name n
    pub entry_is : base_entry g v u name n ≡ slot_at g v (record_slot g v u name n)
    pub place_at : At g v (write_slot g v u name n) (place_of g n)

  pub own : has_group g v u name n ≡ true → Own
  unfolding write_slot base_entry
  own e =
      let h = ltb-true (record_slot g v u name n) (slots g) e in
      let s : write_slot g v u name n ≡ record_slot g v u name n = rw e in
      record {
        slot_is = s;
        entry_is = rw e;
        place_at = rw s (record { slot = h; used = group_used g v u name n u15 h; place = place_lt g good n });
      }

  -- none is there: the entry is new, and so is the block
  new_entry : has_group g v u name n ≡ false → base_entry g v u name n ≡ like_entry (slot_at g v (find_slot g v u name File))
  unfolding base_entry
  new_entry e = rw e

  new_blocks : has_group g v u name n ≡ false → (p : ℕ) → block_in g (base_entry g v u name n) p ≡ 0
  new_blocks e p =
      let f = (write_passed g held v u name n passed).file in
      rw (new_entry e) (like_block (slot_at g v (find_slot g v u name File)) (slot_length g good v size (find_slot g v u name File) f) g p)

  new_needs : has_group g v u name n ≡ false → needs_block g v u name n ≡ true
  unfolding needs_block
  new_needs e = eq-eqb (record_block g (base_entry g v u name n) n) 0 (new_blocks e (place_of g n))

  pub has_group_lem : needs_block g v u name n ≡ false → Own
  has_group_lem e = go (has_group g v u name n) refl
    where
      go : (t : Bool) → has_group g v u name n ≡ t → Own
      go true q = own q
      go false q = absurd (true≢false (sym (new_needs q) ∙ e))

  -- the block is the place's own, or one that the state did not hold
  pub own_block : (e : needs_block g v u name n ≡ false) → write_block g held v u name n ≡ block_in g (slot_at g v (write_slot g v u name n)) (place_of g n)
  unfolding write_block
  own_block e =
      let o = has_group_lem e in
      rw e (ap (λ (x : Entry). block_in g x (place_of g n)) o.entry_is ∙ ap (λ (i : ℕ). block_in g (slot_at g v i) (place_of g n)) (sym o.slot_is))

  pub free_block : needs_block g v u name n ≡ true → holds held (write_block g held v u name n) ≡ false
  unfolding write_block
  free_block e =
      let is : write_block g held v u name n ≡ alloc g held (base_entry g v u name n) (place_of g n) = rw e in
      let h = (write_passed g held v u name n passed).block_high in
      ap (holds held) is ∙ (alloc_given g held (base_entry g v u name n) (place_of g n) (omega arith)).free

  module _ (a : Apart g held v) where
    -- it stands in no other place
    pub block_apart : (i p : ℕ) → At g v i p → block_in g (slot_at g v i) p ≢ 0 → ((i ≡ write_slot g v u name n) × (p ≡ place_of g n) → ⊥)
        → block_in g (slot_at g v i) p ≢ write_block g held v u name n
    block_apart i p at nz other q = go (needs_block g v u name n) refl
      where
        go : (t : Bool) → needs_block g v u name n ≡ t → ⊥
        go true e = true≢false (sym (a.held_is i p at nz) ∙ ap (holds held) q ∙ free_block e)
        go false e = other (a.once i p (write_slot g v u name n) (place_of g n) at (has_group_lem e).place_at nz (q ∙ own_block e))

    -- ---- after the write
    module _ (fills : Bool) (r : List ℕ) (r128 : length r ≡ 128) where
      abbrev after : List ℕ
      after = written g held v u name n fills r

      abbrev before : ℕ → ℕ → ℕ
      before i p = block_in g (slot_at g v i) p

      abbrev now : ℕ → ℕ → ℕ
      now i p = block_in g (slot_at g after i) p

      here : now (write_slot g v u name n) (place_of g n) ≡ write_block g held v u name n
      here = ap (λ (e : Entry). block_in g e (place_of g n)) (after_slot g held v u name n good size passed fills r r128) ∙ after_block g held v u name n good size passed

      -- a place that is as it was
      record Kept (i p : ℕ) : Type 0 where
        at : At g v i p
        same : now i p ≡ before i p
        other : (i ≡ write_slot g v u name n) × (p ≡ place_of g n) → ⊥

      -- every block is the written one or stood there before
      comes : (i p : ℕ) → At g after i p → now i p ≢ 0 → ((i ≡ write_slot g v u name n) × (p ≡ place_of g n)) ⊎ Kept i p
      comes i p at nz = go (ℕ_discrete i (write_slot g v u name n)) (ℕ_discrete p (place_of g n))
        where
          beside : i ≡ write_slot g v u name n → p ≢ place_of g n → (t : Bool) → has_group g v u name n ≡ t → Kept i p
          beside e k t q = at_group t q
            where
              grown_same : now i p ≡ block_in g (base_entry g v u name n) p
              grown_same =
                  ap (λ (j : ℕ). now j p) e ∙ ap (λ (x : Entry). block_in g x p) (after_slot g held v u name n good size passed fills r r128)
                  ∙ written_other g (base_entry g v u name n) n (write_block g held v u name n) p k

              at_group : (t : Bool) → has_group g v u name n ≡ t → Kept i p
              at_group true q =
                  let o = own q in
                  let x : i ≡ record_slot g v u name n = e ∙ o.slot_is in
                  record {
                    at = rw e (record { slot = o.place_at.slot; used = o.place_at.used; place = at.place });
                    same = grown_same ∙ ap (λ (y : Entry). block_in g y p) o.entry_is ∙ ap (λ (j : ℕ). before j p) (sym x);
                    other = λ z. k z.1;
                  }
              at_group false q = absurd (nz (grown_same ∙ new_blocks q p))

          elsewhere : i ≢ write_slot g v u name n → Kept i p
          elsewhere k =
              let s = after_slot_other g held v u name n good size passed fills r r128 i at.slot k in
              record {
                at = record { slot = at.slot; used = sym (ap is_empty s) ∙ at.used; place = at.place };
                same = ap (λ (e : Entry). block_in g e p) s;
                other = λ z. k z.0;
              }

          go : Dec (i ≡ write_slot g v u name n) → Dec (p ≡ place_of g n) → ((i ≡ write_slot g v u name n) × (p ≡ place_of g n)) ⊎ Kept i p
          go (yes e) (yes f) = inl (e, f)
          go (yes e) (no f) = inr (beside e f (has_group g v u name n) refl)
          go (no e) f = inr (elsewhere e)

      written_here : (i p : ℕ) → (i ≡ write_slot g v u name n) × (p ≡ place_of g n) → now i p ≡ write_block g held v u name n
      written_here i p z = ap (λ (j : ℕ). now j p) z.0 ∙ ap (λ (q : ℕ). now (write_slot g v u name n) q) z.1 ∙ here

      kept_apart : (i p : ℕ) → now i p ≢ 0 → Kept i p → now i p ≢ write_block g held v u name n
      kept_apart i p nz k q = block_apart i p k.at (λ z. nz (k.same ∙ z)) k.other (sym k.same ∙ q)

      -- ---- the held blocks
      still_size : length (held_after g held v u name n) ≡ held_words
      still_size = go (needs_block g v u name n)
        where
          go : (t : Bool) → length (cond t (hold held (write_block g held v u name n)) held) ≡ held_words
          go true = length_hold held (write_block g held v u name n) ∙ a.size
          go false = a.size

      low : write_block g held v u name n < room held
      low = omega (arith, (bounds g good).blocks_high, (write_passed g held v u name n passed).block_high, a.size)

      now_held : holds (held_after g held v u name n) (write_block g held v u name n) ≡ true
      now_held = go (needs_block g v u name n) refl
        where
          go : (t : Bool) → needs_block g v u name n ≡ t → holds (cond t (hold held (write_block g held v u name n)) held) (write_block g held v u name n) ≡ true
          go true e = holds_hold_same held (write_block g held v u name n) low
          go false e =
              let d = (bounds g good).directory_low in
              let l = (write_passed g held v u name n passed).block_low in
              let q = own_block e in
              ap (holds held) q ∙ a.held_is (write_slot g v u name n) (place_of g n) (has_group_lem e).place_at (λ z. absurd (omega arith))

      still_held : (c : ℕ) → c ≢ write_block g held v u name n → holds held c ≡ true → holds (held_after g held v u name n) c ≡ true
      still_held c k h = go (needs_block g v u name n)
        where
          go : (t : Bool) → holds (cond t (hold held (write_block g held v u name n)) held) c ≡ true
          go true = holds_hold_other held (write_block g held v u name n) low c k ∙ h
          go false = h

      -- ---- all stands apart
      range_after : (i p : ℕ) → At g after i p → now i p ≢ 0 → (g.directory_blocks ≤ now i p) × (now i p < g.blocks)
      range_after i p at nz = ⊎_elim wrote kept (comes i p at nz)
        where
          wrote : (i ≡ write_slot g v u name n) × (p ≡ place_of g n) → (g.directory_blocks ≤ now i p) × (now i p < g.blocks)
          wrote z =
              let w = write_passed g held v u name n passed in
              rw (written_here i p z) (w.block_low, w.block_high)

          kept : Kept i p → (g.directory_blocks ≤ now i p) × (now i p < g.blocks)
          kept k = rw k.same (a.range i p k.at (λ z. nz (k.same ∙ z)))

      once_after : (i p j q : ℕ) → At g after i p → At g after j q → now i p ≢ 0 → now i p ≡ now j q → (i ≡ j) × (p ≡ q)
      once_after i p j q x y nz e = go (comes i p x nz) (comes j q y mz)
        where
          mz : now j q ≢ 0
          mz z = nz (e ∙ z)

          go : ((i ≡ write_slot g v u name n) × (p ≡ place_of g n)) ⊎ Kept i p → ((j ≡ write_slot g v u name n) × (q ≡ place_of g n)) ⊎ Kept j q → (i ≡ j) × (p ≡ q)
          go (inl s) (inl t) = (s.0 ∙ sym t.0, s.1 ∙ sym t.1)
          go (inl s) (inr k) = absurd (kept_apart j q mz k (sym e ∙ written_here i p s))
          go (inr k) (inl t) = absurd (kept_apart i p nz k (e ∙ written_here j q t))
          go (inr k) (inr l) = a.once i p j q k.at l.at (λ z. nz (k.same ∙ z)) (sym k.same ∙ e ∙ l.same)

      held_after_lem : (i p : ℕ) → At g after i p → now i p ≢ 0 → holds (held_after g held v u name n) (now i p) ≡ true
      held_after_lem i p at nz = ⊎_elim (λ z. rw (written_here i p z) now_held) (λ k. kept k) (comes i p at nz)
        where
          kept : Kept i p → holds (held_after g held v u name n) (now i p) ≡ true
          kept k = still_held (now i p) (kept_apart i p nz k) (ap (holds held) k.same ∙ a.held_is i p k.at (λ z. nz (k.same ∙ z)))

      pub apart_after : Apart g (held_after g held v u name n) (written g held v u name n fills r)
      apart_after = record { size = still_size; range = range_after; once = once_after; held_is = held_after_lem }
