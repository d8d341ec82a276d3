-- Slots and records laid into the volume: what was laid reads back, every other slot and record stays, and the length stays.
use mathlib.Core.Path.{◌≡◌}
use mathlib.Core.Bool.{true}
use mathlib.Core.Logic.{◌⊎◌, inl, inr, ◌≢◌}
use mathlib.Core.List.{List}
use Prim.Native.Nat.{ℕ, ◌+◌, ◌%◌, ◌≤◌, ◌<◌}
use lib.ListN.{length}
use Rattle.lists.proofs.PartLaws.{length_part, length_put, part_put, put_part, part_apart}
use Rattle.disk_geometry.specs.declared.Geometry.{Geometry}
use Rattle.disk_geometry.specs.Geometry.{lawful, bytes, records, slots, slot_start, record_start}
use Rattle.disk_volume.specs.Entry.{Entry}
use Rattle.disk_volume.specs.Directory.{slot_at, put_slot}
use Rattle.disk_volume.specs.Record.{record_at, put_record}
use Rattle.disk_geometry.proofs.GeometryLaws.{slot_in, slots_apart, record_in, records_apart, records_apart_within, slot_record_apart}

swap : {A B : Type 0} → A ⊎ B → B ⊎ A
swap (inl a) = inr a
swap (inr b) = inl b

module _ (g : Geometry) (good : lawful g ≡ true) (v : List ℕ) (size : length v ≡ bytes g) where
  pub slot_inside : (i : ℕ) → i < slots g → slot_start g i + 32 ≤ length v
  slot_inside i h = rw size (slot_in g good i h)

  pub record_inside : (b n : ℕ) → b < g.blocks → record_start g b n + 128 ≤ length v
  record_inside b n h = rw size (record_in g good b n h)

  pub slot_length : (i : ℕ) → i < slots g → length (slot_at g v i) ≡ 32
  unfolding slot_at
  slot_length i h = length_part v (slot_start g i) 32 (slot_inside i h)

  pub record_length : (b n : ℕ) → b < g.blocks → length (record_at g v b n) ≡ 128
  unfolding record_at
  record_length b n h = length_part v (record_start g b n) 128 (record_inside b n h)

  -- an entry laid where it stands changes nothing
  pub put_slot_same : (i : ℕ) → i < slots g → put_slot g v i (slot_at g v i) ≡ v
  unfolding slot_at put_slot
  put_slot_same i h = put_part v (slot_start g i) 32 (slot_inside i h)

  -- ---- an entry laid into slot i
  module _ (i : ℕ) (i< : i < slots g) (e : Entry) (e32 : length e ≡ 32) where
    pub put_slot_length : length (put_slot g v i e) ≡ length v
    unfolding put_slot
    put_slot_length = length_put v (slot_start g i) 32 (slot_inside i i<) e e32

    pub slot_put_slot : slot_at g (put_slot g v i e) i ≡ e
    unfolding slot_at put_slot
    slot_put_slot = part_put v (slot_start g i) 32 (slot_inside i i<) e e32

    pub slot_put_slot_other : (j : ℕ) → j < slots g → j ≢ i → slot_at g (put_slot g v i e) j ≡ slot_at g v j
    unfolding slot_at put_slot
    slot_put_slot_other j j< ne = part_apart v (slot_start g i) 32 e (slot_start g j) 32 (slot_inside i i<) e32 (slots_apart g good j i j< i< ne)

    pub record_put_slot : (b n : ℕ) → g.directory_blocks ≤ b → b < g.blocks → record_at g (put_slot g v i e) b n ≡ record_at g v b n
    unfolding record_at put_slot
    record_put_slot b n low high = part_apart v (slot_start g i) 32 e (record_start g b n) 128 (slot_inside i i<) e32 (swap (slot_record_apart g good i b n i< low high))

  -- ---- 128 bytes laid into record n of block b
  module _ (b n : ℕ) (b< : b < g.blocks) (r : List ℕ) (r128 : length r ≡ 128) where
    pub put_record_length : length (put_record g v b n r) ≡ length v
    unfolding put_record
    put_record_length = length_put v (record_start g b n) 128 (record_inside b n b<) r r128

    pub record_put_record : record_at g (put_record g v b n r) b n ≡ r
    unfolding record_at put_record
    record_put_record = part_put v (record_start g b n) 128 (record_inside b n b<) r r128

    pub record_put_record_other : (c m : ℕ) → c < g.blocks → c ≢ b → record_at g (put_record g v b n r) c m ≡ record_at g v c m
    unfolding record_at put_record
    record_put_record_other c m c< ne =
        part_apart v (record_start g b n) 128 r (record_start g c m) 128 (record_inside b n b<) r128 (records_apart g good c b m n c< b< ne)

    pub record_put_record_within : (m : ℕ) → m % records g ≢ n % records g → record_at g (put_record g v b n r) b m ≡ record_at g v b m
    unfolding record_at put_record
    record_put_record_within m ne =
        part_apart v (record_start g b n) 128 r (record_start g b m) 128 (record_inside b n b<) r128 (records_apart_within g good b m n b< ne)

    pub slot_put_record : g.directory_blocks ≤ b → (i : ℕ) → i < slots g → slot_at g (put_record g v b n r) i ≡ slot_at g v i
    unfolding slot_at put_record
    slot_put_record low i i< = part_apart v (record_start g b n) 128 r (slot_start g i) 32 (record_inside b n b<) r128 (slot_record_apart g good i b n i< low b<)
