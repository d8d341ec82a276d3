-- Only data of one block stored: the directory is as it was, and so is every record of another block. Where the block is one
-- that no entry names, or only record n of it is stored, every file keeps all records but that one.
use mathlib.Core.Path.{◌≡◌, refl, sym, ap, ◌∙◌}
use mathlib.Core.Logic.{◌≢◌}
use mathlib.Core.Bool.{Bool, true, false, cond, ◌&&◌, true≢false}
use mathlib.Core.List.{List, [], ◌∷◌}
use Prim.Native.Nat.{ℕ, zero, suc, ◌/◌, ◌%◌, ◌≤◌, ◌<◌}
use native.Mathlib.Omega.{arith}
use native.Mathlib.Decide.{ℕ_discrete}
use lib.Dec.{eqb}
use lib.ListN.{length, take, replicate, length-replicate}
use Rattle.lists.proofs.BoundedLaws.{low_ext}
use Rattle.disk_geometry.specs.declared.Geometry.{Geometry}
use Rattle.disk_geometry.specs.Geometry.{lawful, bytes, slots, records, group_of, place_of, places, record_start, record_of}
use Rattle.disk_geometry.proofs.GeometryLaws.{place_lt}
use Rattle.disk_volume.specs.declared.Wanted.TheVariants.{Group}
use Rattle.disk_volume.specs.Name.{same}
use Rattle.disk_volume.specs.Entry.{extent, block_in, of_file, of_group}
use Rattle.disk_volume.specs.Directory.{slot_at, slot_fits, find_slot}
use Rattle.disk_volume.specs.Record.{record_slot, record_block, record_at, put_record, present}
use Rattle.disk_volume.proofs.DirectoryLaws.{put_record_length, record_put_record_other, slot_put_record}
use Rattle.disk_volume.proofs.FindLaws.{found_fits}
use Rattle.call_read.specs.Read.{read_block, read_bytes}
use Rattle.disk_held.specs.Held.{holds}
use Rattle.call_answers.specs.Refusal.{is_none, first_met}
use Rattle.call_decide.specs.Write.{write_slot, needs_block, write_block, write_tests}
use Rattle.disk_stores.specs.Stores.{Store, store, laid, fill_stores, record_stores}
use Rattle.demands.proofs.Orderly.{Orderly, sound_less}
use Rattle.demands.proofs.Frame as frame
use Rattle.demands.proofs.Files.{is_of, other_file, file_live, file_block}
use Rattle.demands.proofs.Demand2Entries.{same_record}
use Rattle.demands.proofs.Demand2Apart.{At, Apart, has_group_lem, free_block, block_apart, group_used}
use Rattle.demands.proofs.WriteKeeps.{group_file, group_is}
use Rattle.demands.proofs.Demand2Others.{Present, is_present, Stays}

-- ---- stores of one block
pub data InBlock (g : Geometry) (b : ℕ) : List Store → Type 0 where
  none : InBlock g b []
  more : {ss : List Store} (k : ℕ) (r : List ℕ) → length r ≡ 128 → InBlock g b ss → InBlock g b (store (record_of g b k) r ∷ ss)

pub take_in : {g : Geometry} {b : ℕ} (k : ℕ) (ss : List Store) → InBlock g b ss → InBlock g b (take k ss)
take_in zero ss i = none
take_in (suc k) [] none = none
take_in (suc k) (s ∷ ss) (more j r e i) = more j r e (take_in k ss i)

module _ (g : Geometry) (b n : ℕ) (r : List ℕ) (r128 : length r ≡ 128) where
  piece_length : (t : Bool) → length (cond t r (replicate 128 0)) ≡ 128
  piece_length true = r128
  piece_length false = length-replicate {A = ℕ} 128 0

  fill_in : (m k : ℕ) → InBlock g b (fill_stores g b n r k m)
  unfolding fill_stores
  fill_in zero k = none
  fill_in (suc m) k = more k _ (piece_length (eqb k (n % records g))) (fill_in m (suc k))

  pub record_in_block : (fills : Bool) → InBlock g b (record_stores g fills b n r)
  unfolding record_stores
  record_in_block true = fill_in (records g) 0
  record_in_block false = more n r r128 none

pub record DataOnly (g : Geometry) (b : ℕ) (v w : List ℕ) : Type 0 where
  pub length_same : length w ≡ length v
  pub slots_same : (i : ℕ) → i < slots g → slot_at g w i ≡ slot_at g v i
  pub records_same : (c m : ℕ) → c < g.blocks → c ≢ b → record_at g w c m ≡ record_at g v c m

module _ (g : Geometry) (law : lawful g ≡ true) (b : ℕ) (low : g.directory_blocks ≤ b) (high : b < g.blocks) where
  pub data_only : (ss : List Store) → InBlock g b ss → (v : List ℕ) → length v ≡ bytes g → DataOnly g b v (laid g v ss)
  unfolding laid put_record record_start
  data_only [] none v size = record { length_same = refl; slots_same = λ i i<. refl; records_same = λ c m c< ne. refl }
  data_only (s ∷ ss) (more k r e i) v size =
      let l = put_record_length g law v size b k high r e in
      let x = data_only ss i (put_record g v b k r) (l ∙ size) in
      record {
        length_same = x.length_same ∙ l;
        slots_same = λ j j<. x.slots_same j j< ∙ slot_put_record g law v size b k high r e low j j<;
        records_same = λ c m c< ne. x.records_same c m c< ne ∙ record_put_record_other g law v size b k high r e c m c< ne;
      }

-- ---- what is left of the files
module _ (g : Geometry) (held v : List ℕ) (u : ℕ) (name : List ℕ) (n : ℕ) (law : lawful g ≡ true) (size : length v ≡ bytes g) (u15 : u ≤ 15)
    (passed : is_none (first_met (write_tests g held v u name n)) ≡ true) (a : Apart g held v) (sound : Orderly g (slot_at g v))
    (w : List ℕ) (only : DataOnly g (write_block g held v u name n) v w) where
  abbrev b : ℕ
  b = write_block g held v u name n

  pub data_sound : Orderly g (slot_at g w)
  data_sound = sound_less g (slot_at g v) (slot_at g w) sound (λ j j< l. only.slots_same j j<)

  -- a block that an entry names is another, unless the place is the record's own and has it already
  named_apart : (i p : ℕ) → At g v i p → block_in g (slot_at g v i) p ≢ 0 → block_in g (slot_at g v i) p ≡ b
      → (needs_block g v u name n ≡ false) × ((i ≡ write_slot g v u name n) × (p ≡ place_of g n))
  named_apart i p at nz z = go (needs_block g v u name n) refl (ℕ_discrete i (write_slot g v u name n)) (ℕ_discrete p (place_of g n))
    where
      go : (t : Bool) → needs_block g v u name n ≡ t → Dec (i ≡ write_slot g v u name n) → Dec (p ≡ place_of g n)
          → (needs_block g v u name n ≡ false) × ((i ≡ write_slot g v u name n) × (p ≡ place_of g n))
      go true q x y = absurd (true≢false (sym (a.held_is i p at nz) ∙ ap (holds held) z ∙ free_block g held v u name n law size u15 passed q))
      go false q (yes x) (yes y) = (q, (x, y))
      go false q (yes x) (no y) = absurd (block_apart g held v u name n law size u15 passed a i p at nz (λ o. y o.1) z)
      go false q (no x) y = absurd (block_apart g held v u name n law size u15 passed a i p at nz (λ o. x o.0) z)

  -- the entry of a record's group
  group_fits : (m : ℕ) → record_slot g v u name m < slots g → of_group g u name (group_of g (m / 128)) (slot_at g v (record_slot g v u name m)) ≡ true
  unfolding record_slot
  group_fits m h = found_fits g v u name (Group (group_of g (m / 128))) h

  fits_file : (m : ℕ) → record_slot g v u name m < slots g → of_file u name (slot_at g v (record_slot g v u name m)) ≡ true
  fits_file m h = group_file g u name (group_of g (m / 128)) _ (group_fits m h)

  fits_group : (m : ℕ) → record_slot g v u name m < slots g → group_of g (extent (slot_at g v (record_slot g v u name m))) ≡ group_of g (m / 128)
  fits_group m h = group_is g u name (group_of g (m / 128)) _ (group_fits m h)

  -- every other file
  pub data_apart : (x : ℕ) (other : List ℕ) → x ≤ 15 → (eqb x u && same other name) ≡ false → frame.Apart g x other v w
  data_apart x other x15 differ = record {
    entries = λ j j<. frame.unchanged (only.slots_same j j<);
    bytes = λ j p m j< p< own nz.
        let c = file_block g v sound x other x15 j p j< p< own nz in
        only.records_same (block_in g (slot_at g v j) p) m c.1 (not_b j p j< p< own nz);
  }
    where
      not_b : (j p : ℕ) → j < slots g → p < places g → of_file x other (slot_at g v j) ≡ true → block_in g (slot_at g v j) p ≢ 0 → block_in g (slot_at g v j) p ≢ b
      not_b j p j< p< own nz z =
          let k = named_apart j p (record { slot = j<; used = file_live x other (slot_at g v j) x15 own; place = p< }) nz z in
          let o = has_group_lem g held v u name n law size u15 passed k.0 in
          let s : j ≡ record_slot g v u name n = k.1.0 ∙ o.slot_is in
          let mine = is_of u name (slot_at g v j) (rw s (fits_file n (rw s at j<))) in
          true≢false (sym own ∙ other_file u name x other (slot_at g v j) differ mine.user mine.name_is)

  -- the file's other records
  module _ (within : needs_block g v u name n ≡ false → (m : ℕ) → m % records g ≢ n % records g → record_at g w b m ≡ record_at g v b m) where
    slot_same : (m : ℕ) → record_slot g w u name m ≡ record_slot g v u name m
    unfolding record_slot find_slot
    slot_same m =
        low_ext (slot_fits g w u name (Group (group_of g (m / 128)))) (slot_fits g v u name (Group (group_of g (m / 128)))) 0 (slots g)
        (λ j x y. ap (of_group g u name (group_of g (m / 128))) (only.slots_same j (omega arith)))

    module _ (m : ℕ) (ne : m ≢ n) (h : present g v u name m ≡ true) where
      abbrev i : ℕ
      i = record_slot g v u name m

      p : Present g v u name m
      p = is_present g v u name m h

      entry_same : slot_at g w (record_slot g w u name m) ≡ slot_at g v i
      entry_same = ap (slot_at g w) (slot_same m) ∙ only.slots_same i p.slot

      still : present g w u name m ≡ true
      unfolding present
      still = rw (slot_same m, only.slots_same i p.slot) h

      at : At g v i (place_of g m)
      at = record { slot = p.slot; used = group_used g v u name m u15 p.slot; place = place_lt g law m }

      not_zero : block_in g (slot_at g v i) (place_of g m) ≢ 0
      unfolding read_block
      not_zero = p.block

      record_stays : Dec (block_in g (slot_at g v i) (place_of g m) ≡ b) → record_at g w (record_block g (slot_at g v i) m) m ≡ record_at g v (record_block g (slot_at g v i) m) m
      record_stays (no z) = only.records_same _ m (a.range i (place_of g m) at not_zero).1 z
      record_stays (yes z) =
          let k = named_apart i (place_of g m) at not_zero z in
          let o = has_group_lem g held v u name n law size u15 passed k.0 in
          let s : i ≡ record_slot g v u name n = k.1.0 ∙ o.slot_is in
          let e : group_of g (m / 128) ≡ group_of g (n / 128) = sym (fits_group m p.slot) ∙ ap (λ (x : ℕ). group_of g (extent (slot_at g v x))) s ∙ fits_group n (rw s at p.slot) in
          rw z (within k.0 m (λ y. ne (same_record g law m n e k.1.1 y)))

      bytes_same : read_bytes g w u name m ≡ read_bytes g v u name m
      unfolding read_bytes read_block
      bytes_same = rw entry_same (record_stays (ℕ_discrete (block_in g (slot_at g v i) (place_of g m)) b))

      pub data_others : Stays g v w u name m
      data_others = record { still_present = still; same_bytes = bytes_same }
