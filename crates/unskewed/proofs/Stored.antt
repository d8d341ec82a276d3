-- The stores of a call are the same on the unskewed volume, and each is a record of the volume's blocks.
use mathlib.Core.Path.{◌≡◌, refl, sym, ap, ◌∙◌}
use mathlib.Core.Bool.{Bool, true, false, cond}
use mathlib.Core.List.{List, [], ◌∷◌, ◌++◌}
use Prim.Native.Nat.{ℕ, zero, suc, ◌+◌, ◌*◌, ◌/◌, ◌%◌, ◌≤◌, ◌<◌}
use native.Mathlib.Omega.{arith}
use lib.Dec.{eqb}
use lib.ListN.{length, replicate, length-replicate}
use Rattle.lists.specs.Bytes.{part, put}
use Rattle.lists.proofs.PartLaws.{length_part, length_put}
use Rattle.disk_geometry.specs.declared.Geometry.{Geometry}
use Rattle.disk_geometry.specs.Geometry.{lawful, bytes, records, start, slots, record_of}
use Rattle.disk_geometry.proofs.GeometryLaws.{start_in, record_below}
use Rattle.disk_volume.specs.Entry.{Entry}
use Rattle.disk_stores.specs.Pieces.{map_pieces, meant_only, holds_meant}
use Rattle.disk_stores.specs.Stores.{Store, store, laid, fill_stores, record_stores, entry_stores, directory_records, sweep_stores}
use Rattle.disk_stores.specs.Order.{Rising, ends, rises}
use Rattle.disk_stores.proofs.OrderLaws.{sweep_rising}
use Rattle.call_store.specs.Stores.{data_then_entry}
use Rattle.unskewed.specs.Unskewed.{straightened, unskewed}
use Rattle.unskewed.proofs.Logical.{Within, none, and, laid_size, laid_seen}
use Rattle.unskewed.proofs.Seen.{at_record, directory_below}

pub within_append : {g : Geometry} {a b : List Store} → Within g a → Within g b → Within g (a ++ b)
within_append none y = y
within_append (and s ss q r x) y = and s _ q r (within_append x y)

-- ---- data: what is stored does not look at the placing
module _ (g : Geometry) (b n : ℕ) (r : List ℕ) where
  fill_same : (m k : ℕ) → fill_stores (straightened g) b n r k m ≡ fill_stores g b n r k m
  unfolding fill_stores
  fill_same zero k = refl
  fill_same (suc m) k = ap {B = List Store} (λ l. store (record_of g b k) (cond (eqb k (n % records g)) r (replicate 128 0)) ∷ l) (fill_same m (suc k))

  pub data_same : (fills : Bool) → record_stores (straightened g) fills b n r ≡ record_stores g fills b n r
  unfolding record_stores
  data_same true = fill_same (records g) 0
  data_same false = refl

  module _ (good : lawful g ≡ true) (b< : b < g.blocks) (r128 : length r ≡ 128) where
    piece_length : (t : Bool) → length (cond t r (replicate 128 0)) ≡ 128
    piece_length true = r128
    piece_length false = length-replicate {A = ℕ} 128 0

    fill_within : (m k : ℕ) → k + m ≤ records g → Within g (fill_stores g b n r k m)
    unfolding fill_stores
    fill_within zero k h = none
    fill_within (suc m) k h = and _ _ (record_below g good b k b<) (piece_length (eqb k (n % records g))) (fill_within m (suc k) (omega arith))

    pub data_within : (fills : Bool) → Within g (record_stores g fills b n r)
    unfolding record_stores
    data_within true = fill_within (records g) 0 (omega arith)
    data_within false = and _ _ (record_below g good b n b<) r128 none

-- ---- the directory
module _ (g : Geometry) (good : lawful g ≡ true) (v : List ℕ) (size : length v ≡ bytes g) where
  pub entry_seen : (i : ℕ) → i ≤ slots g → (e : Entry) → entry_stores (straightened g) (unskewed g v) i e ≡ entry_stores g v i e
  unfolding entry_stores
  entry_seen i h e = λ k. store (i / 4) (put (at_record g good v size (i / 4) (directory_below g good v size (i / 4) (omega arith)) k) (i % 4 * 32) 32 e) ∷ []

  pub entry_within : (i : ℕ) → i ≤ slots g → (e : Entry) → length e ≡ 32 → Within g (entry_stores g v i e)
  unfolding entry_stores
  entry_within i h e e32 =
      let q< = directory_below g good v size (i / 4) (omega arith) in
      let l : length (part v (start g (i / 4)) 128) ≡ 128 = length_part v (start g (i / 4)) 128 (rw size (start_in g good (i / 4) q<)) in
      and _ _ q< (length_put (part v (start g (i / 4)) 128) (i % 4 * 32) 32 (omega arith) e e32 ∙ l) none

  rising_within : (low : ℕ) (ss : List Store) → Rising g low ss → Within g ss
  rising_within low [] (ends low') = none
  rising_within low (s ∷ ss) (rises low' s' ss' a b c d) = and s ss (directory_below g good v size s.at (omega arith)) c (rising_within _ ss d)

  module _ (meant : Entry → Bool) (f : Entry → Entry) where
    sweep_from : (m r : ℕ) → r + m ≤ directory_records g → sweep_stores (straightened g) meant f (unskewed g v) r m ≡ sweep_stores g meant f v r m
    unfolding sweep_stores
    sweep_from zero r h = refl
    sweep_from (suc m) r h =
        λ i.
        cond (holds_meant meant (at_record g good v size r (directory_below g good v size r (omega arith)) i))
        (store r (map_pieces (meant_only meant f) (at_record g good v size r (directory_below g good v size r (omega arith)) i)) ∷ sweep_from m (suc r) (omega arith) i)
        (sweep_from m (suc r) (omega arith) i)

    pub sweep_seen : sweep_stores (straightened g) meant f (unskewed g v) 0 (directory_records g) ≡ sweep_stores g meant f v 0 (directory_records g)
    sweep_seen = sweep_from (directory_records g) 0 (omega arith)

    pub sweep_within : ((e : Entry) → length e ≡ 32 → length (f e) ≡ 32) → Within g (sweep_stores g meant f v 0 (directory_records g))
    sweep_within keeps = rising_within 0 _ (sweep_rising g good meant f keeps v size (directory_records g) 0 (omega arith))

-- ---- a write
module _ (g : Geometry) (good : lawful g ≡ true) (v : List ℕ) (size : length v ≡ bytes g)
    (fills : Bool) (b n : ℕ) (b< : b < g.blocks) (r : List ℕ) (r128 : length r ≡ 128) (i : ℕ) (i≤ : i ≤ slots g) (e : Entry) where
  after : length (laid g v (record_stores g fills b n r)) ≡ bytes g
  after = laid_size g good v size (record_stores g fills b n r) (data_within g b n r good b< r128 fills) ∙ size

  pub write_seen : data_then_entry (straightened g) fills (unskewed g v) b n r i e ≡ data_then_entry g fills v b n r i e
  write_seen =
      (λ k. data_same g b n r fills k ++ entry_stores (straightened g) (laid (straightened g) (unskewed g v) (data_same g b n r fills k)) i e)
      ∙ ap (λ (x : List ℕ). record_stores g fills b n r ++ entry_stores (straightened g) x i e) (sym (laid_seen g good v size (record_stores g fills b n r) (data_within g b n r good b< r128 fills)))
      ∙ ap (λ (x : List Store). record_stores g fills b n r ++ x) (entry_seen g good (laid g v (record_stores g fills b n r)) after i i≤ e)

  pub write_within : length e ≡ 32 → Within g (data_then_entry g fills v b n r i e)
  write_within e32 = within_append (data_within g b n r good b< r128 fills) (entry_within g good (laid g v (record_stores g fills b n r)) after i i≤ e e32)
