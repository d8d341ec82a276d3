-- How code makes stores one after another while it counts those that are left.
use mathlib.Core.Path.{◌≡◌, refl, sym, ap, ◌∙◌}
use mathlib.Core.Bool.{Bool, true, false}
use mathlib.Core.Logic.{◌≢◌}
use mathlib.Core.List.{List, [], ◌∷◌, ◌++◌}
use Prim.Native.Nat.{ℕ, zero, suc, ◌+◌, ◌-◌, ◌≤◌, ◌<◌}
use native.Mathlib.Omega.{arith}
use native.Mathlib.Decide.{dec_le}
use lib.ListN.{length, length-append}
use Rattle.lists.specs.Bytes.{put}
use Rattle.disk_geometry.specs.declared.Geometry.{Geometry}
use Rattle.disk_geometry.specs.Geometry.{lawful, records, start}
use Rattle.disk_geometry.proofs.GeometryLaws.{bounds}
use Rattle.disk_volume.specs.Entry.{Entry}
use Rattle.disk_stores.specs.Stores.{Store, store, laid, cut, fill_store, fill_stores, record_stores, entry_stores}
use Rattle.disk_stores.proofs.LaidLaws.{cut_first, cut_second, cut_enough, fill_length}

module _ (g : Geometry) (v : List ℕ) where
  pub cut_none : (k : ℕ) → cut g v k [] ≡ v
  unfolding laid
  cut_none zero = refl
  cut_none (suc k) = refl

  -- none is left, and one store where one is
  pub spent : (ss : List Store) (left : ℕ) → left ≡ 0 → v ≡ cut g v left ss
  unfolding laid
  spent ss zero e = refl
  spent ss (suc left) e = absurd (omega arith)

  pub one_store : (q : ℕ) (r : List ℕ) (left : ℕ) → left ≢ 0 → put v (start g q) 128 r ≡ cut g v left (store q r ∷ [])
  unfolding laid
  one_store q r zero e = absurd (e refl)
  one_store q r (suc zero) e = refl
  one_store q r (suc (suc left)) e = refl

  pub cut_cons : (s : Store) (rest : List Store) (left : ℕ) → cut g v left (s ∷ rest) ≡ cut g (cut g v left (s ∷ [])) (left - 1) rest
  unfolding laid
  cut_cons s rest zero = refl
  cut_cons s rest (suc zero) = refl
  cut_cons s rest (suc (suc left)) = let z : suc (suc left) - 1 ≡ suc left = omega arith in rw z

  -- stores after the stores a; where none is left for them, what they are made of does not matter
  module _ (a b c : List Store) (most : ℕ) (same : length a ≤ most → c ≡ b) where
    pub then_cut : cut g (cut g v most a) (most - length a) c ≡ cut g v most (a ++ b)
    unfolding laid
    then_cut = go (dec_le (length a) most)
      where
        go : Dec (length a ≤ most) → cut g (cut g v most a) (most - length a) c ≡ cut g v most (a ++ b)
        go (yes h) = rw (cut_enough g v a most h, same h) (sym (cut_second g v a b most h))
        go (no h) = let z : most - length a ≡ 0 = omega arith in rw z (sym (cut_first g v a b most (omega arith)))

    pub then_left : most - length a - length c ≡ most - length (a ++ b)
    then_left = go (dec_le (length a) most)
      where
        go : Dec (length a ≤ most) → most - length a - length c ≡ most - length (a ++ b)
        go (yes h) = rw (same h, length-append a b) (omega arith)
        go (no h) = rw (length-append a b) (omega arith)

  -- an entry's store after them
  pub then_entry : (a : List Store) (most i : ℕ) (e : Entry)
      → cut g (cut g v most a) (most - length a) (entry_stores g (cut g v most a) i e) ≡ cut g v most (a ++ entry_stores g (laid g v a) i e)
  then_entry a most i e =
      then_cut a (entry_stores g (laid g v a) i e) (entry_stores g (cut g v most a) i e) most (λ h. ap (λ (w : List ℕ). entry_stores g w i e) (cut_enough g v a most h))

pub entry_length : (g : Geometry) (w : List ℕ) (i : ℕ) (e : Entry) → length (entry_stores g w i e) ≡ 1
unfolding entry_stores
entry_length g w i e = refl

pub then_length : (g : Geometry) (w : List ℕ) (a : List Store) (most i : ℕ) (e : Entry) → most - length a - 1 ≡ most - length (a ++ entry_stores g w i e)
then_length g w a most i e =
    let l = length-append a (entry_stores g w i e) in
    let o = entry_length g w i e in
    omega arith

-- ---- a loop over a block's records
pub record CutFilled (g : Geometry) (b n : ℕ) (r v₀ : List ℕ) (most : ℕ) (v : List ℕ) (left k : ℕ) : Type 0 where
  pub volume_is : cut g v₀ most (fill_stores g b n r 0 (records g)) ≡ cut g v left (fill_stores g b n r k (records g - k))
  pub left_is : most - records g ≡ left - (records g - k)

module _ {g : Geometry} {b n : ℕ} {r v₀ : List ℕ} {most : ℕ} where
  pub filled_start : CutFilled g b n r v₀ most v₀ most 0
  filled_start = let z : records g - 0 ≡ records g = omega arith in record { volume_is = rw z; left_is = rw z }

  pub filled_next : {v new : List ℕ} {left left' k : ℕ} → CutFilled g b n r v₀ most v left k → k < records g
      → new ≡ cut g v left (fill_store g b n r k ∷ []) → left' ≡ left - 1
      → CutFilled g b n r v₀ most new left' (k + 1)
  unfolding fill_stores
  filled_next {v} {new} {left} {left'} {k} x h e l =
      let z : records g - k ≡ suc (records g - (k + 1)) = omega arith in
      let y : k + 1 ≡ suc k = omega arith in
      record {
        volume_is = x.volume_is ∙ rw (z, y, e, l)
            (cut_cons g v (fill_store g b n r k) (fill_stores g b n r (suc k) (records g - suc k)) left);
        left_is = x.left_is ∙ omega arith;
      }

  pub filled_end : {v : List ℕ} {left k : ℕ} → CutFilled g b n r v₀ most v left k → records g ≤ k
      → (v ≡ cut g v₀ most (record_stores g true b n r)) × (left ≡ most - length (record_stores g true b n r))
  unfolding fill_stores record_stores laid
  filled_end {v} {left} {k} x h =
      let z : records g - k ≡ 0 = omega arith in
      let l = fill_length g b n r (records g) 0 in
      (sym (x.volume_is ∙ rw z (cut_none g v left)), omega (arith, x.left_is))

-- ---- enough
pub record_most : (g : Geometry) → lawful g ≡ true → (fills : Bool) (b n : ℕ) (r : List ℕ) → length (record_stores g fills b n r) ≤ 32
unfolding record_stores
record_most g good true b n r = omega (arith, fill_length g b n r (records g) 0, bounds g good)
record_most g good false b n r = omega arith
