-- The unskewed volume, record by record: it has the length of a straight volume, each logical record stands in its place, and a
-- record stored on the image is stored on it.
use mathlib.Core.Path.{◌≡◌, refl, sym, ap, ◌∙◌}
use mathlib.Core.Bool.{true}
use mathlib.Core.List.{List, [], ◌∷◌, ◌++◌}
use Prim.Native.Nat.{ℕ, zero, suc, ◌+◌, ◌*◌, ◌≤◌, ◌<◌}
use native.Mathlib.Decide.{ℕ_discrete}
use native.Mathlib.Omega.{arith}
use lib.ListN.{length, take, drop, length-append, take-append-drop, length-drop}
use lib.Seq.{take_at, drop_at, drop-drop}
use Rattle.lists.specs.Bytes.{part, put}
use Rattle.lists.proofs.PartLaws.{length_part, length_put, part_put, part_apart}
use Rattle.disk_geometry.specs.declared.Geometry.{Geometry}
use Rattle.disk_geometry.specs.Geometry.{lawful, bytes, records, start}
use Rattle.disk_geometry.proofs.GeometryLaws.{bounds, bytes_straight, start_straight, start_in, start_apart, straight_lawful}
use Rattle.disk_stores.specs.Stores.{Store, laid}
use Rattle.unskewed.specs.Unskewed.{straightened, logical_from, unskewed}

-- ---- lists of whole records
first_part : (a l : List ℕ) → length a ≡ 128 → part (a ++ l) 0 128 ≡ a
unfolding part
first_part a l e = take_at a l 128 e

later_part : (a l : List ℕ) (j : ℕ) → length a ≡ 128 → part (a ++ l) (suc j * 128) 128 ≡ part l (j * 128) 128
unfolding part
later_part a l j e =
    let z : suc j * 128 ≡ 128 + j * 128 = omega arith in
    rw (z, ← drop-drop (j * 128) 128 (a ++ l), drop_at a l 128 e)

head_part : (l : List ℕ) → part l (0 * 128) 128 ≡ take 128 l
unfolding part
head_part l = refl

tail_part : (l : List ℕ) (j : ℕ) → part (drop 128 l) (j * 128) 128 ≡ part l (suc j * 128) 128
unfolding part
tail_part l j =
    let z : suc j * 128 ≡ 128 + j * 128 = omega arith in
    rw (z, drop-drop (j * 128) 128 l)

-- two lists that have the same records are the same
same_records : (k : ℕ) (a b : List ℕ) → length a ≡ k * 128 → length b ≡ k * 128
    → ((j : ℕ) → j < k → part a (j * 128) 128 ≡ part b (j * 128) 128) → a ≡ b
same_records zero [] [] ea eb h = refl
same_records zero [] (y ∷ b) ea eb h = absurd (omega arith)
same_records zero (x ∷ a) b ea eb h = absurd (omega arith)
same_records (suc k) a b ea eb h =
    let first : take 128 a ≡ take 128 b = sym (head_part a) ∙ h 0 (omega arith) ∙ head_part b in
    let rest : drop 128 a ≡ drop 128 b
    = same_records k (drop 128 a) (drop 128 b) (length-drop 128 a ∙ omega arith) (length-drop 128 b ∙ omega arith)
    (λ j j<. tail_part a j ∙ h (suc j) (omega arith) ∙ sym (tail_part b j)) in
    sym (take-append-drop 128 a) ∙ (λ i. first i ++ rest i) ∙ take-append-drop 128 b

-- ---- the image
module _ (g : Geometry) (good : lawful g ≡ true) where
  in_image : (v : List ℕ) → length v ≡ bytes g → (q : ℕ) → q < g.blocks * records g → start g q + 128 ≤ length v
  in_image v size q h = rw size (start_in g good q h)

  length_logical : (v : List ℕ) → length v ≡ bytes g → (k q : ℕ) → q + k ≤ g.blocks * records g → length (logical_from g v q k) ≡ k * 128
  unfolding logical_from
  length_logical v size zero q h = refl
  length_logical v size (suc k) q h =
      let a : length (part v (start g q) 128) ≡ 128 = length_part v (start g q) 128 (in_image v size q (omega arith)) in
      let b : length (logical_from g v (suc q) k) ≡ k * 128 = length_logical v size k (suc q) (omega arith) in
      length-append (part v (start g q) 128) (logical_from g v (suc q) k) ∙ omega arith

  part_logical : (v : List ℕ) → length v ≡ bytes g → (k q j : ℕ) → q + k ≤ g.blocks * records g → j < k
      → part (logical_from g v q k) (j * 128) 128 ≡ part v (start g (q + j)) 128
  unfolding logical_from
  part_logical v size zero q j h j< = absurd (omega arith)
  part_logical v size (suc k) q zero h j< =
      let z : q + 0 ≡ q = omega arith in
      rw z (first_part (part v (start g q) 128) (logical_from g v (suc q) k) (length_part v (start g q) 128 (in_image v size q (omega arith))))
  part_logical v size (suc k) q (suc j) h j< =
      let z : q + suc j ≡ suc q + j = omega arith in
      rw z
      (later_part (part v (start g q) 128) (logical_from g v (suc q) k) j (length_part v (start g q) 128 (in_image v size q (omega arith)))
      ∙ part_logical v size k (suc q) j (omega arith) (omega arith))

  -- it is a straight volume
  pub straight_good : lawful (straightened g) ≡ true
  straight_good = straight_lawful g good

  length_unskewed : (v : List ℕ) → length v ≡ bytes g → length (unskewed g v) ≡ g.blocks * records g * 128
  unfolding unskewed
  length_unskewed v size = length_logical v size (g.blocks * records g) 0 (omega arith)

  pub unskewed_size : (v : List ℕ) → length v ≡ bytes g → length (unskewed g v) ≡ bytes (straightened g)
  unskewed_size v size = length_unskewed v size ∙ sym (bytes_straight (straightened g) refl ∙ (bounds g good).whole_records)

  -- each logical record stands in its place
  pub record_seen : (v : List ℕ) → length v ≡ bytes g → (q : ℕ) → q < g.blocks * records g
      → part (unskewed g v) (start (straightened g) q) 128 ≡ part v (start g q) 128
  unfolding unskewed
  record_seen v size q h =
      let z : 0 + q ≡ q = omega arith in
      rw (start_straight (straightened g) straight_good q refl) (part_logical v size (g.blocks * records g) 0 q (omega arith) h ∙ ap (λ (x : ℕ). part v (start g x) 128) z)

  -- ---- a record stored
  module _ (v : List ℕ) (size : length v ≡ bytes g) (q : ℕ) (q< : q < g.blocks * records g) (r : List ℕ) (r128 : length r ≡ 128) where
    pub stored_size : length (put v (start g q) 128 r) ≡ length v
    stored_size = length_put v (start g q) 128 (in_image v size q q<) r r128

    straight_in : start (straightened g) q + 128 ≤ length (unskewed g v)
    straight_in = rw (unskewed_size v size) (start_in (straightened g) straight_good q q<)

    pub put_seen : unskewed g (put v (start g q) 128 r) ≡ put (unskewed g v) (start (straightened g) q) 128 r
    put_seen =
        same_records (g.blocks * records g) _ _ (length_unskewed _ (stored_size ∙ size))
        (length_put (unskewed g v) (start (straightened g) q) 128 straight_in r r128 ∙ length_unskewed v size)
        (λ j j<. by_straight j _ _ (record_seen (put v (start g q) 128 r) (stored_size ∙ size) j j< ∙ here j j< (ℕ_discrete j q)))
      where
        at : (j : ℕ) → start (straightened g) j ≡ j * 128
        at j = start_straight (straightened g) straight_good j refl

        by_straight : (j : ℕ) (x y : List ℕ) → part x (start (straightened g) j) 128 ≡ part y (start (straightened g) j) 128 → part x (j * 128) 128 ≡ part y (j * 128) 128
        by_straight j x y e = ap (λ (a : ℕ). part x a 128) (sym (at j)) ∙ e ∙ ap (λ (a : ℕ). part y a 128) (at j)

        here : (j : ℕ) → j < g.blocks * records g → Dec (j ≡ q)
            → part (put v (start g q) 128 r) (start g j) 128 ≡ part (put (unskewed g v) (start (straightened g) q) 128 r) (start (straightened g) j) 128
        here j j< (yes z) =
            rw z (part_put v (start g q) 128 (in_image v size q q<) r r128 ∙ sym (part_put (unskewed g v) (start (straightened g) q) 128 straight_in r r128))
        here j j< (no z) =
            part_apart v (start g q) 128 r (start g j) 128 (in_image v size q q<) r128 (start_apart g good j q j< q< z)
            ∙ sym (record_seen v size j j<)
            ∙ sym (part_apart (unskewed g v) (start (straightened g) q) 128 r (start (straightened g) j) 128 straight_in r128 (start_apart (straightened g) straight_good j q j< q< z))

-- ---- a run of stores, each a record of the volume
pub data Within (g : Geometry) : List Store → Type 0 where
  none : Within g []
  and : (s : Store) (ss : List Store) → s.at < g.blocks * records g → length s.bytes ≡ 128 → Within g ss → Within g (s ∷ ss)

pub laid_size : (g : Geometry) → lawful g ≡ true → (v : List ℕ) → length v ≡ bytes g → (ss : List Store) → Within g ss → length (laid g v ss) ≡ length v
unfolding laid
laid_size g good v size [] none = refl
laid_size g good v size (s ∷ ss) (and s' ss' q< r128 rest) =
    let e = stored_size g good v size s.at q< s.bytes r128 in
    laid_size g good (put v (start g s.at) 128 s.bytes) (e ∙ size) ss rest ∙ e

pub laid_seen : (g : Geometry) → lawful g ≡ true → (v : List ℕ) → length v ≡ bytes g → (ss : List Store) → Within g ss
    → unskewed g (laid g v ss) ≡ laid (straightened g) (unskewed g v) ss
unfolding laid
laid_seen g good v size [] none = refl
laid_seen g good v size (s ∷ ss) (and s' ss' q< r128 rest) =
    laid_seen g good (put v (start g s.at) 128 s.bytes) (stored_size g good v size s.at q< s.bytes r128 ∙ size) ss rest
    ∙ ap (λ (x : List ℕ). laid (straightened g) x ss) (put_seen g good v size s.at q< s.bytes r128)
