-- A write cut anywhere: none, some or all of its data are stored, or all of it. The block that data go to is the record's own,
-- or one that no entry names, so nobody but record n sees them before the entry is stored.
use mathlib.Core.Path.{◌≡◌, refl, sym, ◌∙◌}
use mathlib.Core.Logic.{◌≢◌, ◌⊎◌, inl, inr}
use mathlib.Core.Bool.{Bool, true, false, ◌&&◌, and-false}
use mathlib.Core.List.{List, ◌++◌}
use Prim.Native.Nat.{ℕ, ◌-◌, ◌%◌, ◌≤◌, ◌<◌}
use native.Mathlib.Omega.{arith}
use native.Mathlib.Decide.{dec_le}
use lib.Dec.{eqb}
use lib.ListN.{length, take}
use Rattle.lists.proofs.BoolLaws.{and_left}
use Rattle.disk_geometry.specs.declared.Geometry.{Geometry}
use Rattle.disk_geometry.specs.Geometry.{slots, inside, records, record_start, record_of}
use Rattle.disk_geometry.proofs.InsideLaws.{inside_is}
use Rattle.disk_volume.specs.Name.{name_of, same}
use Rattle.disk_volume.specs.Entry.{Entry}
use Rattle.disk_volume.specs.Record.{record_at, put_record}
use Rattle.disk_volume.proofs.DirectoryLaws.{record_put_record, record_put_record_within}
use Rattle.disk_stores.specs.Stores.{Store, store, laid, cut, record_stores, entry_stores}
use Rattle.disk_stores.specs.Order.{Ordered}
use Rattle.disk_stores.proofs.LaidLaws.{laid_append, cut_enough, cut_first, cut_second}
use Rattle.disk_stores.proofs.OrderLaws.{entry_ordered, record_ordered}
use Rattle.call_answers.specs.Refusal.{is_none, first_met}
use Rattle.disk_rules.specs.GoodSlot.{named_below}
use Rattle.disk_rules.specs.Named.{named}
use Rattle.call_decide.specs.Write.{write_slot, needs_block, fills_block, write_block, entry_after, write_tests}
use Rattle.call_decide.proofs.WriteLaws.{write_passed, length_entry_after}
use Rattle.call_write.proofs.AfterLaws.{written, after_present}
use Rattle.filecalls.specs.declared.Drive.{Drive}
use Rattle.filecalls.specs.CodeReady.{OpenState}
use Rattle.demands.specs.Demand2.{Sound, Present}
use Rattle.demands.specs.Cuts.{Itself, as_before, as_written}
use Rattle.demands.proofs.Inspected.{sound_accepted, held_sound}
use Rattle.demands.proofs.Acts.{Consistent, Safe, safe_none, leaves_apart}
use Rattle.demands.proofs.Demand2Apart.{Apart, inspected}
use Rattle.demands.proofs.Demand2Others.{is_present, Stays, bytes_after, others_stay}
use Rattle.demands.proofs.WriteKeeps.{write_size, write_sound, write_apart}
use Rattle.demands.proofs.OneStore.{single_cut, entry_cut}
use Rattle.demands.proofs.DataStored.{take_in, record_in_block, data_only, data_sound, data_apart, data_others}
use Rattle.demands.proofs.OwnRecord.{own_data}

-- the invariant of a run is what demand 2 asks, and so blocks stand apart
pub sound_of : (d : Drive) (v : List ℕ) → Consistent d v → Sound d v
unfolding named
sound_of d v s = record {
  inspected = sound_accepted d.geometry v s.sound;
  words = s.held.size;
  holds_named = λ b e.
      let i = inside_is d.geometry b (and_left (inside d.geometry b) (named_below d.geometry v (slots d.geometry) b) e) in
      s.held.whole b i.0 i.1 (held_sound d.geometry v b e);
}

blocks_apart : (d : Drive) (v : List ℕ) → Consistent d v → Apart d.geometry d.held v
blocks_apart d v c = let s = sound_of d v c in inspected d.geometry d.held v s.words s.inspected s.holds_named

-- a volume left half done by a write of record n, with the bytes r, of the file that the control block f names
pub record WriteSafe (d : Drive) (f : List ℕ) (n : ℕ) (r v w : List ℕ) : Type 0 where
  pub safe : Safe (λ u name. eqb u d.user && same name (name_of f)) d.geometry v w
  pub records_stay : (m : ℕ) → m ≢ n → (s : List ℕ) → Present d f v m s → Present d f w m s
  pub itself : Itself d f v w n r

pub write_none : {d : Drive} {v f : List ℕ} {n : ℕ} {r : List ℕ} → Consistent d v → WriteSafe d f n r v v
write_none c = record { safe = safe_none c; records_stay = λ m ne s p. p; itself = as_before refl (λ s p. p) }

still : {d : Drive} {f v w : List ℕ} {m : ℕ} → Stays d.geometry v w d.user (name_of f) m → (s : List ℕ) → Present d f v m s → Present d f w m s
still k s p = record { is_present = k.still_present; has_bytes = k.same_bytes ∙ p.has_bytes }

module _ (d : Drive) (v f : List ℕ) (c : Consistent d v) (o : OpenState d) (n : ℕ) (fills : Bool) (r : List ℕ) (n< : n < 65536) (r128 : length r ≡ 128)
    (passed : is_none (first_met (write_tests d.geometry d.held v d.user (name_of f) n)) ≡ true) where
  abbrev g : Geometry
  g = d.geometry

  abbrev b : ℕ
  b = write_block d.geometry d.held v d.user (name_of f) n

  abbrev full : Bool
  full = fills_block d.geometry v d.user (name_of f) n fills

  abbrev slot : ℕ
  slot = write_slot d.geometry v d.user (name_of f) n

  abbrev entry : Entry
  entry = entry_after d.geometry d.held v d.user (name_of f) n

  -- the data, and then the entry
  abbrev data_stores : List Store
  data_stores = record_stores d.geometry full b n r

  abbrev entry_stores_lem : List Store
  entry_stores_lem = entry_stores d.geometry (laid d.geometry v data_stores) slot entry

  low : g.directory_blocks ≤ b
  low = (write_passed g d.held v d.user (name_of f) n passed).block_low

  high : b < g.blocks
  high = (write_passed g d.held v d.user (name_of f) n passed).block_high

  slot_in : slot < slots g
  slot_in = (write_passed g d.held v d.user (name_of f) n passed).slot_in

  -- ---- where the block is not new record n alone is stored
  alone : needs_block g v d.user (name_of f) n ≡ false → full ≡ false
  alone q = rw (q, and-false)

  within_alone : (k m : ℕ) → m % records g ≢ n % records g → record_at g (cut g v k (record_stores g false b n r)) b m ≡ record_at g v b m
  unfolding record_stores laid put_record record_start
  within_alone k m ne =
      single_cut (λ w. record_at g w b m ≡ record_at g v b m) g v (store (record_of g b n) r) refl
      (record_put_record_within g c.law v c.size b n high r r128 m ne) k

  own_alone : (k : ℕ) → (record_at g (cut g v k (record_stores g false b n r)) b n ≡ record_at g v b n) ⊎ (record_at g (cut g v k (record_stores g false b n r)) b n ≡ r)
  unfolding record_stores laid put_record record_start
  own_alone k =
      single_cut (λ w. (record_at g w b n ≡ record_at g v b n) ⊎ (record_at g w b n ≡ r)) g v (store (record_of g b n) r) (inl refl)
      (inr (record_put_record g c.law v c.size b n high r r128)) k

  -- ---- some of the data
  data_safe : (k : ℕ) → WriteSafe d f n r v (cut g v k data_stores)
  data_safe k =
      let only = data_only g c.law b low high (take k data_stores) (take_in k data_stores (record_in_block g b n r r128 full)) v c.size in
      let a = blocks_apart d v c in
      record {
        safe = record {
          same_size = only.length_same;
          sound = data_sound g d.held v d.user (name_of f) n c.law c.size o.user15 passed a c.sound _ only;
          others = λ u name u15 other. leaves_apart g c.law u name v _
              (data_apart g d.held v d.user (name_of f) n c.law c.size o.user15 passed a c.sound _ only u name u15 other);
        };
        records_stay = λ m ne s p.
            still (data_others g d.held v d.user (name_of f) n c.law c.size o.user15 passed a c.sound _ only
            (λ q x differ. rw (alone q) (within_alone k x differ)) m ne p.is_present) s p;
        itself = own_data d v f n c.law c.size o.user15 passed _ r only (λ q. rw (alone q) (own_alone k));
      }

  -- ---- all of it
  all_size : length (laid g v data_stores) ≡ length v
  all_size = (data_only g c.law b low high data_stores (record_in_block g b n r r128 full) v c.size).length_same

  whole_safe : WriteSafe d f n r v (written g d.held v d.user (name_of f) n fills r)
  whole_safe = record {
    safe = record {
      same_size = write_size g c.law v c.size c.sound d.held c.held d.user o.user15 (name_of f) n n< passed fills r r128 ∙ sym c.size;
      sound = write_sound g c.law v c.size c.sound d.held c.held d.user o.user15 (name_of f) n n< passed fills r r128;
      others = λ u name u15 other. leaves_apart g c.law u name v _
          (write_apart g c.law v c.size c.sound d.held c.held d.user o.user15 (name_of f) n n< passed fills r r128 u name u15 other);
    };
    records_stay = λ m ne s p.
        still (others_stay g d.held v d.user (name_of f) n c.law c.size o.user15 passed fills r r128 (blocks_apart d v c) m ne
        (is_present g v d.user (name_of f) m p.is_present)) s p;
    itself = as_written (record {
      is_present = after_present g d.held v d.user (name_of f) n c.law c.size passed fills r r128;
      has_bytes = bytes_after g d.held v d.user (name_of f) n c.law c.size o.user15 passed fills r r128;
    });
  }

  pub write_cut_lem : (k : ℕ) → WriteSafe d f n r v (cut g v k (data_stores ++ entry_stores_lem))
  write_cut_lem k = go (dec_le k (length data_stores))
    where
      all_data : WriteSafe d f n r v (laid g v data_stores)
      all_data = rw (cut_enough g v data_stores (length data_stores) (omega arith)) at (data_safe (length data_stores))

      go : Dec (k ≤ length data_stores) → WriteSafe d f n r v (cut g v k (data_stores ++ entry_stores_lem))
      go (yes h) = rw (cut_first g v data_stores entry_stores_lem k h) (data_safe k)
      go (no h) =
          rw (cut_second g v data_stores entry_stores_lem k (omega arith))
          (entry_cut (WriteSafe d f n r v) g (laid g v data_stores) slot entry all_data (rw (laid_append g data_stores entry_stores_lem v) at whole_safe) (k - length data_stores))

  pub write_ordered : Ordered g (data_stores ++ entry_stores_lem)
  write_ordered =
      record_ordered g c.law b n low r r128 _
      (entry_ordered g c.law (laid g v data_stores) (all_size ∙ c.size) slot slot_in entry
      (length_entry_after g d.held v d.user (name_of f) n c.law c.size passed))
      full
