-- A sweep's stores laid down change every slot, and the first k of them change the slots of the first directory records:
-- a record that holds no entry that is meant is as it was, and needs no store.
use mathlib.Core.Path.{◌≡◌, refl, sym, ap, ◌∙◌}
use mathlib.Core.Bool.{Bool, true, false, cond}
use mathlib.Core.Logic.{◌≢◌}
use mathlib.Core.List.{List, ◌∷◌}
use Prim.Native.Nat.{ℕ, zero, suc, ◌+◌, ◌-◌, ◌*◌, ◌≤◌, ◌<◌}
use native.Mathlib.Omega.{arith}
use lib.ListN.{length}
use Rattle.lists.specs.Bounded.{fold}
use Rattle.lists.specs.Bytes.{part, put}
use Rattle.lists.proofs.FoldLaws.{fold_add}
use Rattle.lists.proofs.BoundedLaws.{any_false, any_intro, any_none}
use Rattle.lists.proofs.PartLaws.{length_part, length_put, put_part, part_apart}
use Rattle.disk_geometry.specs.declared.Geometry.{Geometry}
use Rattle.disk_geometry.specs.Geometry.{lawful, bytes, records, start}
use Rattle.disk_geometry.proofs.GeometryLaws.{bounds, start_in, start_apart}
use Rattle.disk_volume.specs.Entry.{Entry}
use Rattle.disk_volume.specs.Directory.{slot_at, map_slot, map_slots}
use Rattle.disk_stores.specs.Pieces.{map_piece, map_pieces, map_record, meant_only, holds_meant}
use Rattle.disk_stores.proofs.SweepLaws.{map_piece_length, piece_slot, record_is}
use Rattle.disk_stores.specs.Stores.{store, laid, cut, sweep_stores}

module _ (g : Geometry) (good : lawful g ≡ true) (meant : Entry → Bool) (f : Entry → Entry)
    (keeps : (e : Entry) → length e ≡ 32 → length (f e) ≡ 32) where
  abbrev count : ℕ
  count = g.directory_blocks * records g

  -- the change as it is made, of every entry
  abbrev F : Entry → Entry
  F = meant_only meant f

  pub meant_keeps : (e : Entry) → length e ≡ 32 → length (F e) ≡ 32
  meant_keeps e h = go (meant e)
    where
      go : (t : Bool) → length (cond t (f e) e) ≡ 32
      go true = keeps e h
      go false = h

  -- ---- one record
  module _ (v : List ℕ) (size : length v ≡ bytes g) (r : ℕ) (r< : r < count) where
    abbrev copy : List ℕ
    copy = part v (start g r) 128

    in_v : start g r + 128 ≤ length v
    in_v = rw size (start_in g good r (omega (arith, bounds g good)))

    copy_128 : length copy ≡ 128
    copy_128 = length_part v (start g r) 128 in_v

    piece_same : (k : ℕ) → k < 4 → meant (part copy (k * 32) 32) ≡ false → map_piece F copy k ≡ copy
    unfolding map_piece
    piece_same k h e = rw e (put_part copy (k * 32) 32 (omega (arith, copy_128)))

    pub none_same : holds_meant meant copy ≡ false → map_pieces F copy ≡ copy
    unfolding fold
    none_same e =
        let same : (k : ℕ) → k < 4 → map_piece F copy k ≡ copy
        = λ k h. piece_same k h (any_false (λ k. meant (part copy (k * 32) 32)) 0 4 e k (omega arith) (omega arith)) in
        rw (same 0 (omega arith), same 1 (omega arith), same 2 (omega arith), same 3 (omega arith))

    pub none_stays : holds_meant meant copy ≡ false → map_record g F v r ≡ v
    unfolding map_record
    none_stays e = ap (put v (start g r) 128) (none_same e) ∙ put_part v (start g r) 128 in_v

    pub pieces_128 : length (map_pieces F copy) ≡ 128
    unfolding fold
    pieces_128 =
        let four : (l : List ℕ) (k : ℕ) → k < 4 → length l ≡ 128 → length (map_piece F l k) ≡ 128 = λ l k h e. map_piece_length g good F meant_keeps l k e h in
        four _ 3 (omega arith) (four _ 2 (omega arith) (four _ 1 (omega arith) (four copy 0 (omega arith) copy_128)))

    pub map_record_length : length (map_record g F v r) ≡ length v
    unfolding map_record
    map_record_length = length_put v (start g r) 128 in_v (map_pieces F copy) pieces_128

    pub map_record_other : (q : ℕ) → q < count → q ≢ r → part (map_record g F v r) (start g q) 128 ≡ part v (start g q) 128
    unfolding map_record
    map_record_other q q< ne =
        part_apart v (start g r) 128 (map_pieces F copy) (start g q) 128 in_v pieces_128
        (start_apart g good q r (omega (arith, bounds g good)) (omega (arith, bounds g good)) ne)

    -- a slot that is meant is in the record, and none is
    pub slot_holds : (k : ℕ) → k < 4 → meant (slot_at g v (4 * r + k)) ≡ true → holds_meant meant copy ≡ true
    slot_holds k h e =
        any_intro (λ j. meant (part copy (j * 32) 32)) 0 4 k (omega arith) (omega arith)
        (ap meant (piece_slot g good F meant_keeps v size r r< k h) ∙ e)

    pub slots_hold_none : ((k : ℕ) → k < 4 → meant (slot_at g v (4 * r + k)) ≡ false) → holds_meant meant copy ≡ false
    slots_hold_none e =
        any_none (λ j. meant (part copy (j * 32) 32)) 0 4
        (λ k low high. ap meant (piece_slot g good F meant_keeps v size r r< k (omega arith)) ∙ e k (omega arith))

  -- ---- stores depend only on the records that they are made of
  pub sweep_same : (m r : ℕ) (v w : List ℕ) → ((q : ℕ) → r ≤ q → q < r + m → part w (start g q) 128 ≡ part v (start g q) 128)
      → sweep_stores g meant f w r m ≡ sweep_stores g meant f v r m
  unfolding sweep_stores
  sweep_same zero r v w h = refl
  sweep_same (suc m) r v w h = rw (h r (omega arith) (omega arith), sweep_same m (suc r) v w (λ q a b. h q (omega arith) (omega arith)))

  -- ---- the list from record r on: its record is stored, or passed over
  pub stores_hit : (m r : ℕ) (v : List ℕ) → holds_meant meant (part v (start g r) 128) ≡ true
      → sweep_stores g meant f v r (suc m) ≡ store r (map_pieces F (part v (start g r) 128)) ∷ sweep_stores g meant f v (suc r) m
  unfolding sweep_stores
  stores_hit m r v e = rw e

  pub stores_miss : (m r : ℕ) (v : List ℕ) → holds_meant meant (part v (start g r) 128) ≡ false
      → sweep_stores g meant f v r (suc m) ≡ sweep_stores g meant f v (suc r) m
  unfolding sweep_stores
  stores_miss m r v e = rw e

  -- records without an entry that is meant are passed over
  pub stores_skip : (m r q : ℕ) (v : List ℕ) → length v ≡ bytes g → r + m ≡ q → q ≤ count
      → ((i : ℕ) → 4 * r ≤ i → i < 4 * q → meant (slot_at g v i) ≡ false)
      → sweep_stores g meant f v r (count - r) ≡ sweep_stores g meant f v q (count - q)
  stores_skip zero r q v size e h none = let z : r ≡ q = omega arith in rw z
  stores_skip (suc m) r q v size e h none =
      let z : count - r ≡ suc (count - suc r) = omega arith in
      ap (sweep_stores g meant f v r) z
      ∙ stores_miss (count - suc r) r v (slots_hold_none v size r (omega arith) (λ k l. none (4 * r + k) (omega arith) (omega arith)))
      ∙ stores_skip m (suc r) q v size (omega arith) h (λ i low high. none i (omega arith) high)

  -- ---- what a volume is: v with the slots of some records from r on changed, at most m
  pub record Reached (v w : List ℕ) (r m : ℕ) : Type 0 where
    pub upto : ℕ
    pub within : upto ≤ m
    pub is : w ≡ fold (map_slot g F) v (4 * r) (4 * upto)

  none_reached : (v : List ℕ) (r m : ℕ) → Reached v v r m
  unfolding fold
  none_reached v r m = record { upto = 0; within = omega arith; is = refl }

  -- record r changed, and then some from the next on
  next_is : (v : List ℕ) → length v ≡ bytes g → (r : ℕ) → r < count → (s : ℕ)
      → fold (map_slot g F) (map_record g F v r) (4 * suc r) (4 * s) ≡ fold (map_slot g F) v (4 * r) (4 * suc s)
  next_is v size r r< s =
      let z : 4 * suc s ≡ 4 + 4 * s = omega arith in
      let y : 4 * r + 4 ≡ 4 * suc r = omega arith in
      rw (record_is g good F meant_keeps v size r r<, z, fold_add (map_slot g F) v (4 * r) 4 (4 * s), y)

  next_reached : (v w : List ℕ) → length v ≡ bytes g → (r m : ℕ) → r < count → Reached (map_record g F v r) w (suc r) m → Reached v w r (suc m)
  next_reached v w size r m r< x = record { upto = suc x.upto; within = omega (arith, x.within); is = x.is ∙ next_is v size r r< x.upto }

  -- the rest of the stores is made of what stands after the first one
  pub rest_same : (m r : ℕ) (v : List ℕ) → length v ≡ bytes g → r + suc m ≤ count
      → sweep_stores g meant f (map_record g F v r) (suc r) m ≡ sweep_stores g meant f v (suc r) m
  rest_same m r v size h =
      sweep_same m (suc r) v (map_record g F v r) (λ q a b. map_record_other v size r (omega arith) q (omega arith) (omega arith))

  -- the first k stores reach some record
  pub sweep_cut : (m r k : ℕ) (v : List ℕ) → length v ≡ bytes g → r + m ≤ count → Reached v (cut g v k (sweep_stores g meant f v r m)) r m
  unfolding sweep_stores laid map_record
  sweep_cut zero r zero v size h = none_reached v r 0
  sweep_cut zero r (suc k) v size h = none_reached v r 0
  sweep_cut (suc m) r k v size h =
      go (holds_meant meant (part v (start g r) 128)) refl k
      (sweep_cut m (suc r) k v size (omega arith))
      (λ j. sweep_cut m (suc r) j (map_record g F v r) (map_record_length v size r (omega arith) ∙ size) (omega arith))
    where
      go : (t : Bool) → holds_meant meant (part v (start g r) 128) ≡ t → (k : ℕ)
          → Reached v (cut g v k (sweep_stores g meant f v (suc r) m)) (suc r) m
          → ((j : ℕ) → Reached (map_record g F v r) (cut g (map_record g F v r) j (sweep_stores g meant f (map_record g F v r) (suc r) m)) (suc r) m)
          → Reached v (cut g v k (sweep_stores g meant f v r (suc m))) r (suc m)
      go false e k x y =
          let same = none_stays v size r (omega arith) e in
          rw e (next_reached v _ size r m (omega arith) (rw same x))
      go true e zero x y = none_reached v r (suc m)
      go true e (suc k) x y =
          let same = rest_same m r v size h in
          rw e (next_reached v _ size r m (omega arith) (rw same at (y k)))

  -- all of them change every record
  pub sweep_all : (m r : ℕ) (v : List ℕ) → length v ≡ bytes g → r + m ≤ count → laid g v (sweep_stores g meant f v r m) ≡ fold (map_slot g F) v (4 * r) (4 * m)
  unfolding sweep_stores laid map_record fold
  sweep_all zero r v size h = refl
  sweep_all (suc m) r v size h =
      go (holds_meant meant (part v (start g r) 128)) refl
      (sweep_all m (suc r) v size (omega arith))
      (sweep_all m (suc r) (map_record g F v r) (map_record_length v size r (omega arith) ∙ size) (omega arith))
    where
      go : (t : Bool) → holds_meant meant (part v (start g r) 128) ≡ t
          → laid g v (sweep_stores g meant f v (suc r) m) ≡ fold (map_slot g F) v (4 * suc r) (4 * m)
          → laid g (map_record g F v r) (sweep_stores g meant f (map_record g F v r) (suc r) m) ≡ fold (map_slot g F) (map_record g F v r) (4 * suc r) (4 * m)
          → laid g v (sweep_stores g meant f v r (suc m)) ≡ fold (map_slot g F) v (4 * r) (4 * suc m)
      go false e x y =
          let same = none_stays v size r (omega arith) e in
          rw e (x ∙ ap (λ (w : List ℕ). fold (map_slot g F) w (4 * suc r) (4 * m)) (sym same) ∙ next_is v size r (omega arith) m)
      go true e x y =
          let same = rest_same m r v size h in
          rw e ((rw same at y) ∙ next_is v size r (omega arith) m)

  -- the whole directory
  pub swept_laid : (v : List ℕ) → length v ≡ bytes g → laid g v (sweep_stores g meant f v 0 count) ≡ map_slots g F v
  swept_laid v size = sweep_all count 0 v size (omega arith)

-- no more stores than records
pub sweep_most : (g : Geometry) (meant : Entry → Bool) (f : Entry → Entry) (v : List ℕ) (m r : ℕ) → length (sweep_stores g meant f v r m) ≤ m
unfolding sweep_stores
sweep_most g meant f v zero r = omega arith
sweep_most g meant f v (suc m) r = go (holds_meant meant (part v (start g r) 128)) (sweep_most g meant f v m (suc r))
  where
    go : (t : Bool) → length (sweep_stores g meant f v (suc r) m) ≤ m
        → length (cond t (store r (map_pieces (meant_only meant f) (part v (start g r) 128)) ∷ sweep_stores g meant f v (suc r) m) (sweep_stores g meant f v (suc r) m)) ≤ suc m
    go true h = omega arith
    go false h = omega arith
