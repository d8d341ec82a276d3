-- What a write does to the file's other records: each that was present is present, with the same bytes. A record of the
-- same entry still counts, and its block or its part of the block is another; a record of another group has its entry as
-- it was.
use mathlib.Core.Path.{◌≡◌, refl, sym, ap, ◌∙◌}
use mathlib.Core.Bool.{Bool, true, false, not, ◌&&◌, and-false, true≢false}
use mathlib.Core.Logic.{◌≢◌}
use mathlib.Core.List.{List}
use Prim.Native.Nat.{ℕ, ◌/◌, ◌%◌, ◌≤◌, ◌<◌}
use native.Mathlib.Decide.{ℕ_discrete}
use native.Mathlib.Omega.{arith}
use lib.Dec.{ltb, eqb}
use lib.ListN.{length}
use borrow.Author.Tests.{lt-ltb, ltb-true, eqb-true, eqb-false, ne_eqb, not-true}
use Rattle.lists.proofs.BoolLaws.{and_parts, and_right}
use Rattle.disk_geometry.specs.declared.Geometry.{Geometry}
use Rattle.disk_volume.specs.declared.Wanted.TheVariants.{Empty, Group}
use Rattle.disk_geometry.specs.Geometry.{lawful, bytes, slots, group_of, place_of}
use Rattle.disk_volume.specs.Entry.{Entry, is_empty, extent, block_in, count_of, of_file, of_group}
use Rattle.disk_volume.specs.Directory.{slot_at, slot_fits, find_slot}
use Rattle.disk_volume.specs.Record.{record_slot, record_block, counted, present, record_at}
use Rattle.disk_volume.proofs.FindLaws.{found_fits, found_first, find_is}
use Rattle.disk_geometry.proofs.GeometryLaws.{place_lt}
use Rattle.call_read.specs.Read.{read_block, read_bytes}
use Rattle.call_answers.specs.Refusal.{is_none, first_met}
use Rattle.call_decide.specs.Write.{has_group, write_slot, base_entry, needs_block, write_block, entry_after, write_tests}
use Rattle.call_write.proofs.AfterLaws.{written, after_group, after_block, after_slot, after_slot_other, after_record, after_record_other, after_record_within, after_record_slot}
use Rattle.call_entry.proofs.GrowLaws.{written_count, written_other}
use Rattle.call_decide.proofs.WriteLaws.{write_passed, length_base}
use Rattle.demands.proofs.Demand2Entries.{count_grows, same_record}
use Rattle.demands.proofs.Demand2Apart.{At, Apart, own, own_block, block_apart, group_used}

-- ---- a present record: where it is
pub record Present (g : Geometry) (v : List ℕ) (u : ℕ) (name : List ℕ) (m : ℕ) : Type 0 where
  pub slot : record_slot g v u name m < slots g
  pub below : m % 128 < count_of (slot_at g v (record_slot g v u name m)) (m / 128)
  pub block : read_block g v u name m ≢ 0

pub is_present : (g : Geometry) (v : List ℕ) (u : ℕ) (name : List ℕ) (m : ℕ) → present g v u name m ≡ true → Present g v u name m
unfolding present counted read_block
is_present g v u name m h =
    let e = slot_at g v (record_slot g v u name m) in
    let p = and_parts (ltb (record_slot g v u name m) (slots g)) (ltb (m % 128) (count_of e (m / 128)) && not (eqb (record_block g e m) 0)) h in
    let q = and_parts (ltb (m % 128) (count_of e (m / 128))) (not (eqb (record_block g e m) 0)) p.1 in
    record {
      slot = ltb-true (record_slot g v u name m) (slots g) p.0;
      below = ltb-true (m % 128) (count_of e (m / 128)) q.0;
      block = eqb-false (record_block g e m) 0 (not-true (eqb (record_block g e m) 0) q.1);
    }

pub present_is : (g : Geometry) (v : List ℕ) (u : ℕ) (name : List ℕ) (m : ℕ) → Present g v u name m → present g v u name m ≡ true
unfolding present counted read_block
present_is g v u name m p =
    let e = slot_at g v (record_slot g v u name m) in
    rw (lt-ltb (record_slot g v u name m) (slots g) p.slot, lt-ltb (m % 128) (count_of e (m / 128)) p.below, ne_eqb (record_block g e m) 0 p.block)

-- present afterwards as before, with the same bytes
pub record Stays (g : Geometry) (v w : List ℕ) (u : ℕ) (name : List ℕ) (m : ℕ) : Type 0 where
  pub still_present : present g w u name m ≡ true
  pub same_bytes : read_bytes g w u name m ≡ read_bytes g v u name m

module _ (g : Geometry) (held v : List ℕ) (u : ℕ) (name : List ℕ) (n : ℕ) (good : lawful g ≡ true) (size : length v ≡ bytes g) (u15 : u ≤ 15)
    (passed : is_none (first_met (write_tests g held v u name n)) ≡ true) (fills : Bool) (r : List ℕ) (r128 : length r ≡ 128) where
  abbrev after : List ℕ
  after = written g held v u name n fills r

  -- the record that is written
  pub bytes_after : read_bytes g after u name n ≡ r
  unfolding read_bytes read_block
  bytes_after =
      let s = ap (slot_at g after) (after_record_slot g held v u name n good size passed fills r r128) ∙ after_slot g held v u name n good size passed fills r r128 in
      let b : record_block g (slot_at g after (record_slot g after u name n)) n ≡ write_block g held v u name n = ap (λ (e : Entry). record_block g e n) s ∙ after_block g held v u name n good size passed in
      ap (λ (x : ℕ). record_at g after x n) b ∙ after_record g held v u name n good size passed fills r r128

  module _ (a : Apart g held v) (m : ℕ) (ne : m ≢ n) (p : Present g v u name m) where
    abbrev i : ℕ
    i = record_slot g v u name m

    at : At g v i (place_of g m)
    at = record { slot = p.slot; used = group_used g v u name m u15 p.slot; place = place_lt g good m }

    not_zero : block_in g (slot_at g v i) (place_of g m) ≢ 0
    unfolding read_block
    not_zero = p.block

    -- where it stands afterwards: in a slot, below the count, in the block where it was
    stays : record_slot g after u name m < slots g → m % 128 < count_of (slot_at g after (record_slot g after u name m)) (m / 128)
        → record_block g (slot_at g after (record_slot g after u name m)) m ≡ record_block g (slot_at g v i) m
        → record_at g after (record_block g (slot_at g v i) m) m ≡ record_at g v (record_block g (slot_at g v i) m) m → Stays g v after u name m
    unfolding read_bytes read_block
    stays s c b w = record {
      still_present = present_is g after u name m (record { slot = s; below = c; block = λ z. not_zero (sym b ∙ z) });
      same_bytes = ap (λ (x : ℕ). record_at g after x m) b ∙ w;
    }

    other_block : ((i ≡ write_slot g v u name n) × (place_of g m ≡ place_of g n) → ⊥)
        → record_at g after (record_block g (slot_at g v i) m) m ≡ record_at g v (record_block g (slot_at g v i) m) m
    other_block k =
        let l = a.range i (place_of g m) at not_zero in
        after_record_other g held v u name n good size passed fills r r128 (record_block g (slot_at g v i) m) m l.0 l.1
        (block_apart g held v u name n good size u15 passed a i (place_of g m) at not_zero k)

    -- ---- a record of the same group: of the same entry
    module _ (e : group_of g (m / 128) ≡ group_of g (n / 128)) where
      same_slot : (w : List ℕ) → record_slot g w u name m ≡ record_slot g w u name n
      unfolding record_slot
      same_slot w = ap (λ (k : ℕ). find_slot g w u name (Group k)) e

      has : has_group g v u name n ≡ true
      has = lt-ltb (record_slot g v u name n) (slots g) (omega (arith, same_slot v, p.slot))

      slot_is : i ≡ write_slot g v u name n
      slot_is = same_slot v ∙ sym (own g held v u name n good size u15 passed has).slot_is

      entry_is : base_entry g v u name n ≡ slot_at g v i
      entry_is = (own g held v u name n good size u15 passed has).entry_is ∙ ap (slot_at g v) (sym (same_slot v))

      slot_now : record_slot g after u name m ≡ write_slot g v u name n
      slot_now = same_slot after ∙ after_record_slot g held v u name n good size passed fills r r128

      entry_now : slot_at g after (record_slot g after u name m) ≡ entry_after g held v u name n
      entry_now = ap (slot_at g after) slot_now ∙ after_slot g held v u name n good size passed fills r r128

      count_now : m % 128 < count_of (slot_at g after (record_slot g after u name m)) (m / 128)
      count_now =
          let c = written_count g (base_entry g v u name n) n (write_block g held v u name n) (m / 128) in
          let l = count_grows (base_entry g v u name n) n (m / 128) (length_base g v u name n good size (write_passed g held v u name n passed).file) in
          let b = ap (λ (x : Entry). count_of x (m / 128)) entry_is in
          rw entry_now (omega (arith, p.below))

      slot_in : record_slot g after u name m < slots g
      slot_in = omega (arith, slot_now, (write_passed g held v u name n passed).slot_in)

      -- in another place
      other_place : place_of g m ≢ place_of g n → Stays g v after u name m
      other_place k =
          stays slot_in count_now
          (ap (λ (x : Entry). record_block g x m) entry_now
          ∙ written_other g (base_entry g v u name n) n (write_block g held v u name n) (place_of g m) k
          ∙ ap (λ (x : Entry). record_block g x m) entry_is)
          (other_block (λ z. k z.1))

      -- in the same place: in the same block, and in another part of it
      module _ (q : place_of g m ≡ place_of g n) where
        base_block : record_block g (base_entry g v u name n) n ≡ record_block g (slot_at g v i) m
        base_block = ap (λ (x : Entry). record_block g x n) entry_is ∙ ap (block_in g (slot_at g v i)) (sym q)

        no_need : needs_block g v u name n ≡ false
        unfolding needs_block
        no_need = ne_eqb (record_block g (base_entry g v u name n) n) 0 (λ z. not_zero (sym base_block ∙ z))

        block_is : write_block g held v u name n ≡ record_block g (slot_at g v i) m
        block_is =
            own_block g held v u name n good size u15 passed no_need
            ∙ ap (λ (j : ℕ). block_in g (slot_at g v j) (place_of g n)) (sym slot_is) ∙ ap (block_in g (slot_at g v i)) (sym q)

        within : record_at g after (record_block g (slot_at g v i) m) m ≡ record_at g v (record_block g (slot_at g v i) m) m
        within =
            rw (← block_is)
            (after_record_within g held v u name n good size passed fills r r128 m (λ z. ne (same_record g good m n e q z)) ∙ rw (no_need, and-false))

        same_place : Stays g v after u name m
        same_place =
            stays slot_in count_now
            (ap (λ (x : Entry). record_block g x m) entry_now
            ∙ ap (block_in g (entry_after g held v u name n)) q ∙ after_block g held v u name n good size passed ∙ block_is)
            within

      same_group : Stays g v after u name m
      same_group = elim (ℕ_discrete (place_of g m) (place_of g n)) [ yes q ↦ same_place q | no k ↦ other_place k ]

    -- ---- a record of another group: its entry is as it was
    module _ (k : group_of g (m / 128) ≢ group_of g (n / 128)) where
      group_of_lem : (x : ℕ) → record_slot g v u name x < slots g → group_of g (extent (slot_at g v (record_slot g v u name x))) ≡ group_of g (x / 128)
      unfolding record_slot of_group
      group_of_lem x h =
          let y = slot_at g v (record_slot g v u name x) in
          eqb-true (group_of g (extent y)) (group_of g (x / 128))
          (and_right (of_file u name y) (eqb (group_of g (extent y)) (group_of g (x / 128))) (found_fits g v u name (Group (group_of g (x / 128))) h))

      other_slot_lem : i ≢ write_slot g v u name n
      other_slot_lem z = go (has_group g v u name n) refl
        where
          go : (t : Bool) → has_group g v u name n ≡ t → ⊥
          go true q =
              let o = own g held v u name n good size u15 passed q in
              k (sym (group_of_lem m p.slot) ∙ ap (λ (j : ℕ). group_of g (extent (slot_at g v j))) (z ∙ o.slot_is) ∙ group_of_lem n (ltb-true (record_slot g v u name n) (slots g) q))
          go false q = true≢false (sym (empty_slot q) ∙ ap (λ (j : ℕ). is_empty (slot_at g v j)) (sym z) ∙ at.used)
            where
              empty_slot : has_group g v u name n ≡ false → is_empty (slot_at g v (write_slot g v u name n)) ≡ true
              empty_slot q =
                  let s : write_slot g v u name n ≡ find_slot g v u name Empty = unfold write_slot in rw q in
                  rw s (found_fits g v u name Empty (omega (arith, s, (write_passed g held v u name n passed).slot_in)))

      entry_same : slot_at g after i ≡ slot_at g v i
      entry_same = after_slot_other g held v u name n good size passed fills r r128 i p.slot other_slot_lem

      written_group : group_of g (extent (entry_after g held v u name n)) ≡ group_of g (n / 128)
      unfolding of_group
      written_group =
          let y = entry_after g held v u name n in
          eqb-true (group_of g (extent y)) (group_of g (n / 128))
          (and_right (of_file u name y) (eqb (group_of g (extent y)) (group_of g (n / 128))) (after_group g held v u name n good size passed))

      not_written : of_group g u name (group_of g (m / 128)) (entry_after g held v u name n) ≡ false
      unfolding of_group
      not_written =
          rw (ne_eqb (group_of g (extent (entry_after g held v u name n))) (group_of g (m / 128)) (λ z. k (sym z ∙ written_group)), and-false)

      none_before : (j : ℕ) → j < i → slot_fits g after u name (Group (group_of g (m / 128))) j ≡ false
      unfolding record_slot
      none_before j h = elim (ℕ_discrete j (write_slot g v u name n)) [
        | yes z ↦ ap (λ (x : ℕ). of_group g u name (group_of g (m / 128)) (slot_at g after x)) z
            ∙ ap (of_group g u name (group_of g (m / 128))) (after_slot g held v u name n good size passed fills r r128) ∙ not_written
        | no z ↦ ap (of_group g u name (group_of g (m / 128))) (after_slot_other g held v u name n good size passed fills r r128 j (omega (arith, p.slot)) z)
            ∙ found_first g v u name (Group (group_of g (m / 128))) j h
      ]

      slot_same : record_slot g after u name m ≡ i
      unfolding record_slot
      slot_same =
          find_is g after u name (Group (group_of g (m / 128))) i
          (record {
            from = omega arith;
            below = omega (arith, p.slot);
            passes = ap (of_group g u name (group_of g (m / 128))) entry_same ∙ found_fits g v u name (Group (group_of g (m / 128))) p.slot;
            first = λ j x y. none_before j y;
          })

      entry_still : slot_at g after (record_slot g after u name m) ≡ slot_at g v i
      entry_still = ap (slot_at g after) slot_same ∙ entry_same

      other_group : Stays g v after u name m
      other_group =
          stays (omega (arith, slot_same, p.slot)) (rw entry_still p.below) (ap (λ (x : Entry). record_block g x m) entry_still) (other_block (λ z. other_slot_lem z.0))

    pub others_stay : Stays g v after u name m
    others_stay = elim (ℕ_discrete (group_of g (m / 128)) (group_of g (n / 128))) [ yes e ↦ same_group e | no k ↦ other_group k ]
