-- The stores of a sweep, of an entry and of a write are in order.
use mathlib.Core.Path.{◌≡◌, ◌∙◌}
use mathlib.Core.Bool.{Bool, true, false, cond}
use mathlib.Core.List.{List, [], ◌∷◌, ◌++◌}
use Prim.Native.Nat.{ℕ, zero, suc, ◌+◌, ◌*◌, ◌/◌, ◌%◌, ◌≤◌, ◌<◌}
use native.Mathlib.Nat.{mul-le-mul_right}
use native.Mathlib.Omega.{arith}
use lib.Dec.{eqb}
use lib.ListN.{length, replicate, length-replicate}
use Rattle.lists.specs.Bytes.{part, put}
use Rattle.lists.proofs.PartLaws.{length_part, length_put}
use Rattle.disk_geometry.specs.declared.Geometry.{Geometry}
use Rattle.disk_geometry.specs.Geometry.{lawful, bytes, records, start, record_of, slots}
use Rattle.disk_geometry.proofs.GeometryLaws.{bounds, start_in}
use Rattle.disk_volume.specs.Entry.{Entry}
use Rattle.disk_stores.specs.Pieces.{map_pieces, meant_only, holds_meant}
use Rattle.disk_stores.specs.Stores.{Store, store, fill_stores, record_stores, entry_stores, sweep_stores}
use Rattle.disk_stores.specs.Order.{Rising, ends, rises, Ordered, directory, data_first}
use Rattle.disk_stores.proofs.SweptLaws.{pieces_128}

lower : {g : Geometry} (low high : ℕ) (ss : List Store) → low ≤ high → Rising g high ss → Rising g low ss
lower low high [] h (ends high') = ends low
lower low high (s ∷ ss) h (rises high' s' ss' a b c d) = rises low s ss (omega arith) b c d

module _ (g : Geometry) (good : lawful g ≡ true) where
  -- ---- a sweep
  module _ (meant : Entry → Bool) (f : Entry → Entry) (keeps : (e : Entry) → length e ≡ 32 → length (f e) ≡ 32)
      (v : List ℕ) (size : length v ≡ bytes g) where
    pub sweep_rising : (m r : ℕ) → r + m ≤ g.directory_blocks * records g → Rising g r (sweep_stores g meant f v r m)
    unfolding sweep_stores
    sweep_rising zero r h = ends r
    sweep_rising (suc m) r h = go (holds_meant meant (part v (start g r) 128)) (sweep_rising m (suc r) (omega arith))
      where
        go : (t : Bool) → Rising g (suc r) (sweep_stores g meant f v (suc r) m)
            → Rising g r (cond t (store r (map_pieces (meant_only meant f) (part v (start g r) 128)) ∷ sweep_stores g meant f v (suc r) m) (sweep_stores g meant f v (suc r) m))
        go true x = rises r (store r (map_pieces (meant_only meant f) (part v (start g r) 128))) _ (omega arith) (omega arith) (pieces_128 g good meant f keeps v size r (omega arith)) x
        go false x = lower r (suc r) _ (omega arith) x

    pub sweep_ordered : Ordered g (sweep_stores g meant f v 0 (g.directory_blocks * records g))
    sweep_ordered = directory _ (sweep_rising (g.directory_blocks * records g) 0 (omega arith))

  -- ---- an entry
  pub entry_ordered : (v : List ℕ) → length v ≡ bytes g → (i : ℕ) → i < slots g → (e : Entry) → length e ≡ 32 → Ordered g (entry_stores g v i e)
  unfolding entry_stores
  entry_ordered v size i i< e e32 =
      let in_v : start g (i / 4) + 128 ≤ length v = rw size (start_in g good (i / 4) (omega (arith, bounds g good))) in
      let l : length (part v (start g (i / 4)) 128) ≡ 128 = length_part v (start g (i / 4)) 128 in_v in
      directory _ (rises 0 (store (i / 4) (put (part v (start g (i / 4)) 128) (i % 4 * 32) 32 e)) [] (omega arith) (omega arith)
      (length_put (part v (start g (i / 4)) 128) (i % 4 * 32) 32 (omega arith) e e32 ∙ l) (ends _))

  -- ---- data, and what follows
  module _ (b n : ℕ) (low : g.directory_blocks ≤ b) (r : List ℕ) (r128 : length r ≡ 128) (ss : List Store) (rest : Ordered g ss) where
    above : (k : ℕ) → g.directory_blocks * records g ≤ record_of g b k
    above k = let h : g.directory_blocks * records g ≤ b * records g = mul-le-mul_right (records g) low in omega arith

    piece_length : (t : Bool) → length (cond t r (replicate 128 0)) ≡ 128
    piece_length true = r128
    piece_length false = length-replicate {A = ℕ} 128 0

    fill_ordered : (m k : ℕ) → Ordered g (fill_stores g b n r k m ++ ss)
    unfolding fill_stores
    fill_ordered zero k = rest
    fill_ordered (suc m) k = data_first _ _ (above k) (piece_length (eqb k (n % records g))) (fill_ordered m (suc k))

    pub record_ordered : (fills : Bool) → Ordered g (record_stores g fills b n r ++ ss)
    unfolding record_stores
    record_ordered true = fill_ordered (records g) 0
    record_ordered false = data_first _ _ (above n) r128 rest
