-- A change made to every slot, for any f that keeps an entry's 32 bytes: each slot afterwards is f of what it was, the
-- length stays, and so does every record of a block from D to T-1. Then that code may make it record by record.
use mathlib.Core.Path.{◌≡◌, refl, sym, ap, ◌∙◌}
use mathlib.Core.Bool.{true}
use mathlib.Core.Logic.{◌⊎◌, inl, inr, ◌≢◌}
use mathlib.Core.List.{List}
use Prim.Native.Nat.{ℕ, zero, suc, ◌+◌, ◌*◌, ◌/◌, ◌%◌, ◌≤◌, ◌<◌}
use native.Mathlib.Decide.{ℕ_discrete}
use native.Mathlib.Omega.{arith}
use lib.ListN.{length}
use Rattle.lists.specs.Bounded.{fold}
use Rattle.lists.specs.Bytes.{part, put}
use Rattle.lists.proofs.PartLaws.{length_part, length_put, part_put, put_part, put_put, part_part, put_put_part}
use Rattle.disk_geometry.specs.declared.Geometry.{Geometry}
use Rattle.disk_geometry.specs.Geometry.{lawful, bytes, records, start, slots, slot_start}
use Rattle.disk_volume.specs.Entry.{Entry}
use Rattle.disk_volume.specs.Directory.{slot_at, put_slot, map_slot, map_slots}
use Rattle.disk_volume.specs.Record.{record_at}
use Rattle.disk_stores.specs.Pieces.{map_piece, map_record}
use Rattle.disk_geometry.proofs.GeometryLaws.{bounds, start_in}
use Rattle.disk_volume.proofs.DirectoryLaws.{slot_length, put_slot_length, slot_put_slot, slot_put_slot_other, record_put_slot}

-- ---- slot by slot
module _ (g : Geometry) (good : lawful g ≡ true) (f : Entry → Entry) (keeps : (e : Entry) → length e ≡ 32 → length (f e) ≡ 32) where
  -- one slot
  module _ (v : List ℕ) (size : length v ≡ bytes g) (i : ℕ) (i< : i < slots g) where
    changed : length (f (slot_at g v i)) ≡ 32
    changed = keeps (slot_at g v i) (slot_length g good v size i i<)

    pub map_slot_length : length (map_slot g f v i) ≡ length v
    unfolding map_slot
    map_slot_length = put_slot_length g good v size i i< (f (slot_at g v i)) changed

    pub map_slot_slot : slot_at g (map_slot g f v i) i ≡ f (slot_at g v i)
    unfolding map_slot
    map_slot_slot = slot_put_slot g good v size i i< (f (slot_at g v i)) changed

    pub map_slot_other : (j : ℕ) → j < slots g → j ≢ i → slot_at g (map_slot g f v i) j ≡ slot_at g v j
    unfolding map_slot
    map_slot_other = slot_put_slot_other g good v size i i< (f (slot_at g v i)) changed

    pub map_slot_record : (b n : ℕ) → g.directory_blocks ≤ b → b < g.blocks → record_at g (map_slot g f v i) b n ≡ record_at g v b n
    unfolding map_slot
    map_slot_record = record_put_slot g good v size i i< (f (slot_at g v i)) changed

  -- k slots from i on
  pub sweep_length : (i k : ℕ) (v : List ℕ) → length v ≡ bytes g → i + k ≤ slots g → length (fold (map_slot g f) v i k) ≡ length v
  unfolding fold
  sweep_length i zero v size h = refl
  sweep_length i (suc k) v size h =
      let l = map_slot_length v size i (omega arith) in
      sweep_length (suc i) k (map_slot g f v i) (l ∙ size) (omega arith) ∙ l

  pub sweep_record : (i k : ℕ) (v : List ℕ) → length v ≡ bytes g → i + k ≤ slots g → (b n : ℕ) → g.directory_blocks ≤ b → b < g.blocks
      → record_at g (fold (map_slot g f) v i k) b n ≡ record_at g v b n
  unfolding fold
  sweep_record i zero v size h b n low high = refl
  sweep_record i (suc k) v size h b n low high =
      sweep_record (suc i) k (map_slot g f v i) (map_slot_length v size i (omega arith) ∙ size) (omega arith) b n low high ∙ map_slot_record v size i (omega arith) b n low high

  pub sweep_other : (i k : ℕ) (v : List ℕ) → length v ≡ bytes g → i + k ≤ slots g → (j : ℕ) → j < slots g → (j < i) ⊎ (i + k ≤ j)
      → slot_at g (fold (map_slot g f) v i k) j ≡ slot_at g v j
  unfolding fold
  sweep_other i zero v size h j j< o = refl
  sweep_other i (suc k) v size h j j< o =
      sweep_other (suc i) k (map_slot g f v i) (map_slot_length v size i (omega arith) ∙ size) (omega arith) j j< (further o) ∙ map_slot_other v size i (omega arith) j j< (apart o)
    where
      further : (j < i) ⊎ (i + suc k ≤ j) → (j < suc i) ⊎ (suc i + k ≤ j)
      further (inl x) = inl (omega arith)
      further (inr x) = inr (omega arith)

      apart : (j < i) ⊎ (i + suc k ≤ j) → j ≢ i
      apart (inl x) = omega arith
      apart (inr x) = omega arith

  pub sweep_slot : (i k : ℕ) (v : List ℕ) → length v ≡ bytes g → i + k ≤ slots g → (j : ℕ) → i ≤ j → j < i + k → slot_at g (fold (map_slot g f) v i k) j ≡ f (slot_at g v j)
  unfolding fold
  sweep_slot i zero v size h j low high = absurd (omega arith)
  sweep_slot i (suc k) v size h j low high =
      let l = map_slot_length v size i (omega arith) ∙ size in
      go (ℕ_discrete j i) l (λ x. sweep_slot (suc i) k (map_slot g f v i) l (omega arith) j x (omega arith))
    where
      go : Dec (j ≡ i) → length (map_slot g f v i) ≡ bytes g → (suc i ≤ j → slot_at g (fold (map_slot g f) (map_slot g f v i) (suc i) k) j ≡ f (slot_at g (map_slot g f v i) j))
          → slot_at g (fold (map_slot g f) (map_slot g f v i) (suc i) k) j ≡ f (slot_at g v j)
      go (yes z) l later =
          sweep_other (suc i) k (map_slot g f v i) l (omega arith) j (omega arith) (inl (omega arith)) ∙ rw z (map_slot_slot v size i (omega arith))
      go (no z) l later = later (omega arith) ∙ ap f (map_slot_other v size i (omega arith) j (omega arith) z)

  -- every slot
  module _ (v : List ℕ) (size : length v ≡ bytes g) where
    pub map_slots_length : length (map_slots g f v) ≡ length v
    map_slots_length = sweep_length 0 (slots g) v size (omega arith)

    pub map_slots_slot : (j : ℕ) → j < slots g → slot_at g (map_slots g f v) j ≡ f (slot_at g v j)
    map_slots_slot j h = sweep_slot 0 (slots g) v size (omega arith) j (omega arith) (omega arith)

    pub map_slots_record : (b n : ℕ) → g.directory_blocks ≤ b → b < g.blocks → record_at g (map_slots g f v) b n ≡ record_at g v b n
    map_slots_record b n low high = sweep_record 0 (slots g) v size (omega arith) b n low high

  -- ---- record by record
  pub map_piece_length : (l : List ℕ) (k : ℕ) → length l ≡ 128 → k < 4 → length (map_piece f l k) ≡ 128
  unfolding map_piece
  map_piece_length l k e h =
      let i : k * 32 + 32 ≤ length l = omega arith in
      length_put l (k * 32) 32 i (f (part l (k * 32) 32)) (keeps (part l (k * 32) 32) (length_part l (k * 32) 32 i)) ∙ e

  -- slot 4 r + k is piece k of record r
  slot_of_record : (r k : ℕ) → k < 4 → slot_start g (4 * r + k) ≡ start g r + k * 32
  unfolding slot_start
  slot_of_record r k h =
      let q : (4 * r + k) / 4 ≡ r = omega arith in
      let m : (4 * r + k) % 4 ≡ k = omega arith in
      rw (q, m)

  module _ (v : List ℕ) (size : length v ≡ bytes g) (r : ℕ) (r< : r < g.directory_blocks * records g) where
    in_v : start g r + 128 ≤ length v
    in_v = rw size (start_in g good r (omega (arith, bounds g good)))

    pub piece_slot : (k : ℕ) → k < 4 → part (part v (start g r) 128) (k * 32) 32 ≡ slot_at g v (4 * r + k)
    unfolding slot_at
    piece_slot k h = part_part v (start g r) 128 in_v (k * 32) 32 (omega arith) ∙ rw (slot_of_record r k h)

    -- a piece changed in the copy: its slot changed in the volume
    piece_stored : (l : List ℕ) (k : ℕ) → length l ≡ 128 → k < 4 → put v (start g r) 128 (map_piece f l k) ≡ map_slot g f (put v (start g r) 128 l) (4 * r + k)
    unfolding map_piece map_slot put_slot slot_at
    piece_stored l k e h =
        let w = put v (start g r) 128 l in
        let lw : length w ≡ length v = length_put v (start g r) 128 in_v l e in
        let in-w : start g r + 128 ≤ length w = rw lw in_v in
        let i : k * 32 + 32 ≤ 128 = omega arith in
        let p : part w (start g r) 128 ≡ l = part_put v (start g r) 128 in_v l e in
        let s : part w (start g r + k * 32) 32 ≡ part l (k * 32) 32 = sym (part_part w (start g r) 128 in-w (k * 32) 32 i) ∙ ap (λ (x : List ℕ). part x (k * 32) 32) p in
        let n = f (part l (k * 32) 32) in
        let u : put w (start g r + k * 32) 32 n ≡ put w (start g r) 128 (put l (k * 32) 32 n)
        = sym (put_put_part w (start g r) 128 in-w (k * 32) 32 i n) ∙ ap (λ (x : List ℕ). put w (start g r) 128 (put x (k * 32) 32 n)) p in
        let q : put w (start g r) 128 (put l (k * 32) 32 n) ≡ put v (start g r) 128 (put l (k * 32) 32 n) = put_put v (start g r) 128 in_v l (put l (k * 32) 32 n) e in
        sym (rw (slot_of_record r k h, s) (u ∙ q))

    pieces_stored : (n k : ℕ) (l : List ℕ) → length l ≡ 128 → k + n ≤ 4
        → put v (start g r) 128 (fold (map_piece f) l k n) ≡ fold (map_slot g f) (put v (start g r) 128 l) (4 * r + k) n
    unfolding fold
    pieces_stored zero k l e h = refl
    pieces_stored (suc n) k l e h =
        let z : 4 * r + suc k ≡ suc (4 * r + k) = omega arith in
        pieces_stored n (suc k) (map_piece f l k) (map_piece_length l k e (omega arith)) (omega arith) ∙ rw (z, piece_stored l k e (omega arith))

    -- four pieces changed in a copy that is stored whole: four slots of the volume changed
    pub record_is : map_record g f v r ≡ fold (map_slot g f) v (4 * r) 4
    unfolding map_record
    record_is =
        let z : 4 * r + 0 ≡ 4 * r = omega arith in
        pieces_stored 4 0 (part v (start g r) 128) (length_part v (start g r) 128 in_v) (omega arith) ∙ rw (put_part v (start g r) 128 in_v, z)
