-- Two sweeps over the directory, one after the other, are one sweep: slots lie apart, so changes of two of them can be made
-- in either order. Sweeps that make the same of each slot leave the same bytes; one that leaves each slot leaves the volume.
use mathlib.Core.Path.{◌≡◌, refl, sym, ap, ◌∙◌}
use mathlib.Core.Bool.{true}
use mathlib.Core.Logic.{◌⊎◌, inl, inr, ◌≢◌}
use mathlib.Core.List.{List}
use Prim.Native.Nat.{ℕ, zero, suc, ◌+◌, ◌≤◌, ◌<◌}
use native.Mathlib.Omega.{arith}
use lib.ListN.{length}
use Rattle.lists.specs.Bounded.{fold}
use Rattle.lists.specs.Bytes.{put}
use Rattle.lists.proofs.PartLaws.{put_put}
use Rattle.disk_geometry.specs.declared.Geometry.{Geometry}
use Rattle.disk_geometry.specs.Geometry.{lawful, bytes, slots, slot_start}
use Rattle.disk_volume.specs.Entry.{Entry}
use Rattle.disk_volume.specs.Directory.{slot_at, put_slot, map_slot, map_slots}
use Rattle.disk_geometry.proofs.GeometryLaws.{slots_apart}
use Rattle.disk_volume.proofs.DirectoryLaws.{slot_inside, slot_length, put_slot_same, slot_put_slot, slot_put_slot_other}
use Rattle.disk_stores.proofs.SweepLaws.{map_slot_length, map_slot_other}
use Rattle.demands.proofs.RenamingParts.{put_either}

-- ---- two entries laid
module _ (g : Geometry) (good : lawful g ≡ true) where
  module _ (v : List ℕ) (size : length v ≡ bytes g) (i j : ℕ) (i< : i < slots g) (j< : j < slots g) (e f : Entry) (e32 : length e ≡ 32) (f32 : length f ≡ 32) where
    put_slot_either : i ≢ j → put_slot g (put_slot g v i e) j f ≡ put_slot g (put_slot g v j f) i e
    unfolding put_slot
    put_slot_either ne = go (slots_apart g good i j i< j< ne)
      where
        in_i : slot_start g i + 32 ≤ length v
        in_i = slot_inside g good v size i i<

        in_j : slot_start g j + 32 ≤ length v
        in_j = slot_inside g good v size j j<

        go : (slot_start g i + 32 ≤ slot_start g j) ⊎ (slot_start g j + 32 ≤ slot_start g i)
            → put (put v (slot_start g i) 32 e) (slot_start g j) 32 f ≡ put (put v (slot_start g j) 32 f) (slot_start g i) 32 e
        go (inl h) = put_either v (slot_start g i) 32 e (slot_start g j) 32 f in_i in_j e32 f32 h
        go (inr h) = sym (put_either v (slot_start g j) 32 f (slot_start g i) 32 e in_j in_i f32 e32 h)

    put_slot_again : put_slot g (put_slot g v i e) i f ≡ put_slot g v i f
    unfolding put_slot
    put_slot_again = put_put v (slot_start g i) 32 (slot_inside g good v size i i<) e f e32

  -- ---- two changes, f and then h, each of which keeps an entry's 32 bytes
  module _ (f h : Entry → Entry) (keeps-f : (e : Entry) → length e ≡ 32 → length (f e) ≡ 32) (keeps-h : (e : Entry) → length e ≡ 32 → length (h e) ≡ 32) where
    module _ (v : List ℕ) (size : length v ≡ bytes g) where
      -- of one slot
      both_at : (i : ℕ) → i < slots g → map_slot g h (map_slot g f v i) i ≡ map_slot g (λ e. h (f e)) v i
      unfolding map_slot
      both_at i i< =
          let e = slot_at g v i in
          let e32 : length e ≡ 32 = slot_length g good v size i i< in
          let f32 : length (f e) ≡ 32 = keeps-f e e32 in
          ap (λ (x : Entry). put_slot g (put_slot g v i (f e)) i (h x)) (slot_put_slot g good v size i i< (f e) f32)
          ∙ put_slot_again v size i i i< i< (f e) (h (f e)) f32 (keeps-h (f e) f32)

      -- of two slots
      either_way : (i j : ℕ) → i < slots g → j < slots g → i ≢ j → map_slot g h (map_slot g f v j) i ≡ map_slot g f (map_slot g h v i) j
      unfolding map_slot
      either_way i j i< j< ne =
          let a = slot_at g v i in
          let b = slot_at g v j in
          let a32 : length (h a) ≡ 32 = keeps-h a (slot_length g good v size i i<) in
          let b32 : length (f b) ≡ 32 = keeps-f b (slot_length g good v size j j<) in
          ap (λ (x : Entry). put_slot g (put_slot g v j (f b)) i (h x)) (slot_put_slot_other g good v size j j< (f b) b32 i i< ne)
          ∙ sym (put_slot_either v size i j i< j< (h a) (f b) a32 b32 ne)
          ∙ ap (λ (x : Entry). put_slot g (put_slot g v i (h a)) j (f x)) (sym (slot_put_slot_other g good v size i i< (h a) a32 j j< (λ z. ne (sym z))))

    -- slot i changed by h, after or before k later slots are changed by f
    past : (i j k : ℕ) (v : List ℕ) → length v ≡ bytes g → i < j → j + k ≤ slots g
        → map_slot g h (fold (map_slot g f) v j k) i ≡ fold (map_slot g f) (map_slot g h v i) j k
    unfolding fold
    past i j zero v size low high = refl
    past i j (suc k) v size low high =
        past i (suc j) k (map_slot g f v j) (map_slot_length g good f keeps-f v size j (omega arith) ∙ size) (omega arith) (omega arith)
        ∙ ap (λ (x : List ℕ). fold (map_slot g f) x (suc j) k) (either_way v size i j (omega arith) (omega arith) (omega arith))

    both_keep : (e : Entry) → length e ≡ 32 → length (h (f e)) ≡ 32
    both_keep e e32 = keeps-h (f e) (keeps-f e e32)

    two_sweeps : (i k : ℕ) (v : List ℕ) → length v ≡ bytes g → i + k ≤ slots g
        → fold (map_slot g h) (fold (map_slot g f) v i k) i k ≡ fold (map_slot g (λ e. h (f e))) v i k
    unfolding fold
    two_sweeps i zero v size high = refl
    two_sweeps i (suc k) v size high =
        let w = map_slot g f v i in
        let w-size : length w ≡ bytes g = map_slot_length g good f keeps-f v size i (omega arith) ∙ size in
        let u = map_slot g (λ e. h (f e)) v i in
        let u-size : length u ≡ bytes g = map_slot_length g good (λ e. h (f e)) both_keep v size i (omega arith) ∙ size in
        let one : map_slot g h (fold (map_slot g f) w (suc i) k) i ≡ fold (map_slot g f) u (suc i) k
        = past i (suc i) k w w-size (omega arith) (omega arith) ∙ ap (λ (x : List ℕ). fold (map_slot g f) x (suc i) k) (both_at v size i (omega arith)) in
        ap (λ (x : List ℕ). fold (map_slot g h) x (suc i) k) one ∙ two_sweeps (suc i) k u u-size (omega arith)

    pub map_slots_twice : (v : List ℕ) → length v ≡ bytes g → map_slots g h (map_slots g f v) ≡ map_slots g (λ e. h (f e)) v
    map_slots_twice v size = two_sweeps 0 (slots g) v size (omega arith)

  -- ---- two changes that make the same of each slot
  module _ (f h : Entry → Entry) (keeps : (e : Entry) → length e ≡ 32 → length (f e) ≡ 32) where
    same_sweep : (i k : ℕ) (v : List ℕ) → length v ≡ bytes g → i + k ≤ slots g → ((j : ℕ) → i ≤ j → j < i + k → f (slot_at g v j) ≡ h (slot_at g v j))
        → fold (map_slot g f) v i k ≡ fold (map_slot g h) v i k
    unfolding fold
    same_sweep i zero v size high same = refl
    same_sweep i (suc k) v size high same =
        same_sweep (suc i) k (map_slot g f v i) (map_slot_length g good f keeps v size i (omega arith) ∙ size) (omega arith)
        (λ j low below.
        let s : slot_at g (map_slot g f v i) j ≡ slot_at g v j = map_slot_other g good f keeps v size i (omega arith) j (omega arith) (omega arith) in
        rw s (same j (omega arith) (omega arith)))
        ∙ ap (λ (x : List ℕ). fold (map_slot g h) x (suc i) k) (unfold map_slot in ap (put_slot g v i) (same i (omega arith) (omega arith)))

    pub map_slots_same : (v : List ℕ) → length v ≡ bytes g → ((j : ℕ) → j < slots g → f (slot_at g v j) ≡ h (slot_at g v j)) → map_slots g f v ≡ map_slots g h v
    map_slots_same v size same = same_sweep 0 (slots g) v size (omega arith) (λ j low below. same j (omega arith))

  -- ---- a change that leaves each slot
  module _ (f : Entry → Entry) (v : List ℕ) (size : length v ≡ bytes g) (leaves : (j : ℕ) → j < slots g → f (slot_at g v j) ≡ slot_at g v j) where
    no_sweep : (i k : ℕ) → i + k ≤ slots g → fold (map_slot g f) v i k ≡ v
    unfolding fold
    no_sweep i zero high = refl
    no_sweep i (suc k) high =
        let s : map_slot g f v i ≡ v = unfold map_slot in ap (put_slot g v i) (leaves i (omega arith)) ∙ put_slot_same g good v size i (omega arith) in
        ap (λ (x : List ℕ). fold (map_slot g f) x (suc i) k) s ∙ no_sweep (suc i) k (omega arith)

    pub map_slots_leaves : map_slots g f v ≡ v
    map_slots_leaves = no_sweep 0 (slots g) (omega arith)
