-- Stores laid down in two runs; the stores of data and of an entry laid down are what the definitions of the volume say.
use mathlib.Core.Path.{◌≡◌, refl, ap, ◌∙◌}
use mathlib.Core.Bool.{Bool, true, false}
use mathlib.Core.List.{List, [], ◌∷◌, ◌++◌}
use Prim.Native.Nat.{ℕ, zero, suc, ◌-◌, ◌*◌, ◌/◌, ◌%◌, ◌≤◌, ◌<◌}
use native.Mathlib.Omega.{arith}
use lib.ListN.{length, take}
use Rattle.lists.specs.Bounded.{fold}
use Rattle.lists.specs.Bytes.{put}
use Rattle.lists.proofs.PartLaws.{put_put_part}
use Rattle.disk_geometry.specs.declared.Geometry.{Geometry}
use Rattle.disk_geometry.specs.Geometry.{lawful, bytes, records, start, slots, slot_start, record_start}
use Rattle.disk_geometry.proofs.GeometryLaws.{bounds, start_in}
use Rattle.disk_volume.specs.Entry.{Entry}
use Rattle.disk_volume.specs.Directory.{put_slot}
use Rattle.disk_volume.specs.Record.{put_record, fill_record, put_filled}
use Rattle.disk_stores.specs.Stores.{Store, laid, cut, fill_stores, record_stores, entry_stores}

pub laid_append : (g : Geometry) (a b : List Store) (v : List ℕ) → laid g v (a ++ b) ≡ laid g (laid g v a) b
unfolding laid
laid_append g [] b v = refl
laid_append g (s ∷ a) b v = laid_append g a b (put v (start g s.at) 128 s.bytes)

-- ---- a cut in a run of two parts falls into the first part or into the second
take_first : (a b : List Store) (k : ℕ) → k ≤ length a → take k (a ++ b) ≡ take k a
take_first [] b zero h = refl
take_first [] b (suc k) h = absurd (omega arith)
take_first (s ∷ a) b zero h = refl
take_first (s ∷ a) b (suc k) h = ap {B = List Store} (λ l. s ∷ l) (take_first a b k (omega arith))

take_second : (a b : List Store) (k : ℕ) → length a ≤ k → take k (a ++ b) ≡ a ++ take (k - length a) b
take_second [] b k h = let z : k - 0 ≡ k = omega arith in rw z
take_second (s ∷ a) b zero h = absurd (omega arith)
take_second (s ∷ a) b (suc k) h =
    let z : suc k - suc (length a) ≡ k - length a = omega arith in
    rw z (ap {B = List Store} (λ l. s ∷ l) (take_second a b k (omega arith)))

pub cut_first : (g : Geometry) (v : List ℕ) (a b : List Store) (k : ℕ) → k ≤ length a → cut g v k (a ++ b) ≡ cut g v k a
cut_first g v a b k h = ap (laid g v) (take_first a b k h)

pub cut_second : (g : Geometry) (v : List ℕ) (a b : List Store) (k : ℕ) → length a ≤ k → cut g v k (a ++ b) ≡ cut g (laid g v a) (k - length a) b
cut_second g v a b k h = ap (laid g v) (take_second a b k h) ∙ laid_append g a (take (k - length a) b) v

take_enough : (a : List Store) (k : ℕ) → length a ≤ k → take k a ≡ a
take_enough [] zero h = refl
take_enough [] (suc k) h = refl
take_enough (s ∷ a) zero h = absurd (omega arith)
take_enough (s ∷ a) (suc k) h = ap {B = List Store} (λ l. s ∷ l) (take_enough a k (omega arith))

-- "the call is that function with enough of them"
pub cut_enough : (g : Geometry) (v : List ℕ) (a : List Store) (k : ℕ) → length a ≤ k → cut g v k a ≡ laid g v a
cut_enough g v a k h = ap (laid g v) (take_enough a k h)

-- ---- data
module _ (g : Geometry) (b n : ℕ) (r : List ℕ) where
  pub fill_laid : (m k : ℕ) (v : List ℕ) → laid g v (fill_stores g b n r k m) ≡ fold (fill_record g b n r) v k m
  unfolding laid fill_stores fold fill_record put_record record_start
  fill_laid zero k v = refl
  fill_laid (suc m) k v = fill_laid m (suc k) (fill_record g b n r v k)

  pub fill_length : (m k : ℕ) → length (fill_stores g b n r k m) ≡ m
  unfolding fill_stores
  fill_length zero k = refl
  fill_length (suc m) k = ap suc (fill_length m (suc k))

  pub record_laid : (fills : Bool) (v : List ℕ) → laid g v (record_stores g fills b n r) ≡ put_filled g fills v b n r
  unfolding record_stores put_filled laid put_record record_start
  record_laid true v = fill_laid (records g) 0 v
  record_laid false v = refl

-- ---- an entry
pub entry_laid : (g : Geometry) → lawful g ≡ true → (v : List ℕ) → length v ≡ bytes g → (i : ℕ) → i < slots g → (e : Entry)
    → laid g v (entry_stores g v i e) ≡ put_slot g v i e
unfolding laid entry_stores put_slot slot_start
entry_laid g good v size i i< e =
    put_put_part v (start g (i / 4)) 128 (rw size (start_in g good (i / 4) (omega (arith, bounds g good)))) (i % 4 * 32) 32 (omega arith) e
